-- A growing insert into a sound table: it stays sound by every answer, every other key's lookup is as before, and what is said goes
-- by the key's state. Assumes nothing.
use mathlib.Core.List.{List, []}
use mathlib.Core.Logic.{◌≢◌}
use mathlib.Core.Path.{◌≡◌, refl, sym, ap, ◌∙◌}
use Prim.Native.Nat.{ℕ}
use native.Mathlib.Omega.{arith}
use borrow.Author.Tests.{le-leb}
use Rattle.rules.specs.Cells.{Lent, shape, offered, zero_hash}
use Rattle.rules.specs.Answers.{found, new, revived, refused}
use Rattle.rules.specs.Calls.{find}
use Rattle.rules.specs.Moves.{stays}
use Rattle.rules.specs.Growing.{LentHalves, in_use, GrowOutcome, refused_at, most_rounds, start, grow, rounds}
use Rattle.sound.specs.State.{no_cell, live_cell, state_of, SoundTable, Sized, Acceptable, finds, inserts, find_says}
use Rattle.sound.proofs.Saying.{find_says_lem}
use Rattle.sound.proofs.ByKey.{sound_shape}
use Rattle.sound.proofs.Keeping.{zero_passes, offered_passes}
use Rattle.growthlaws.specs.Grown as checks
use Rattle.growthlaws.specs.Grown.{Halves, GrowChecked, grown}
use Rattle.growthlaws.proofs.Checks.{grow_checked, passed_shaped, passed_size, passed_most, passed_c, passed_clear}
use Rattle.growthlaws.proofs.Sound.{rounds_kept}

-- two sound tables with one hasher of which check 1 says the same: a find says the same of a key where its states do
find_same : (l n : Lent) → Sized l → Sized n → SoundTable l → SoundTable n → shape n ≡ shape l → n.params.hash_of ≡ l.params.hash_of
    → (k : ℕ) → finds (state_of n k) ≡ finds (state_of l k) → (find n k).said ≡ (find l k).said
find_same l n a b s t c h k e = find_says_lem n b t k ∙ said ∙ sym (find_says_lem l a s k)
  where
    said : find_says n k (state_of n k) ≡ find_says l k (state_of l k)
    said = rw (c, h, e)

-- what a growing insert comes to
record Comes (l : LentHalves) (k v : ℕ) (g : GrowOutcome) : Type 0 where
  sound : SoundTable (in_use (grown l g))
  shaped : shape (in_use (grown l g)) ≡ shape (in_use l)
  others : (q : ℕ) → q ≢ k → finds (state_of (in_use (grown l g)) q) ≡ finds (state_of (in_use l) q)
  lookups : (n : ℕ) (x : List ℕ) → g.said ≡ refused n x → (q : ℕ) → finds (state_of (in_use (grown l g)) q) ≡ finds (state_of (in_use l) q)
  says : Acceptable (in_use l) k v → ((x : List ℕ) → g.said ≢ refused 6 x) → g.said ≡ inserts (state_of (in_use l) k)
  own : Acceptable (in_use l) k v → ((x : List ℕ) → g.said ≢ refused 6 x) → state_of (in_use (grown l g)) k ≡ live_cell v
  lacked : g.moves ≢ [] → state_of (in_use l) k ≡ no_cell

module _ (l : LentHalves) (f : Halves l) (s : SoundTable (in_use l)) (k v : ℕ) where
  -- a check refused it: all is left
  left : (n : ℕ) → (Acceptable (in_use l) k v → ⊥) → Comes l k v (refused_at (start l) n 0 (stays []))
  left n a =
      record {
        sound = s;
        shaped = refl;
        others = λ q m. refl;
        lookups = λ n x e q. refl;
        says = λ b. absurd (a b);
        own = λ b. absurd (a b);
        lacked = λ m. absurd (m refl);
      }

  -- past the checks
  ran : shape (in_use l) ≡ 0 → offered l.null v ≡ 0 → zero_hash (l.hash_of k) ≡ 0
      → Comes l k v (rounds l.C l.null l.hash_of l.clear (l.hash_of k) k v most_rounds (start l))
  ran a b d =
      let y = rounds_kept l.C l.null l.hash_of l.clear k v (passed_c l a f) (passed_clear l a f) (zero_passes _ d) (offered_passes l.null v b)
      l.used most_rounds (start l) (passed_size l a) (passed_most l a) s refl in
      let g = rounds l.C l.null l.hash_of l.clear (l.hash_of k) k v most_rounds (start l) in
      record {
        sound = y.sound;
        shaped = sound_shape (in_use (grown l g)) y.sound (rw (passed_shaped l a, y.size, le-leb g.size l.C y.most)) ∙ sym a;
        others = y.others;
        lookups = y.lookups;
        says = λ c. y.says;
        own = λ c. y.own;
        lacked = y.lacked;
      }

  comes : Comes l k v (grow l k v)
  comes = go _ (grow_checked l k v)
    where
      go : (g : GrowOutcome) → GrowChecked l k v g → Comes l k v g
      go g (checks.by1 a e) = rw e (left 1 (λ c. omega (arith, c.shaped)))
      go g (checks.by3 a b e) = rw e (left 3 (λ c. omega (arith, c.value)))
      go g (checks.by2 a b d e) = rw e (left 2 (λ c. omega (arith, c.hash)))
      go g (checks.past a b d e) = rw e (ran a b d)

  -- soundness is kept, by every answer
  pub grow_keeps_sound : SoundTable (in_use (grown l (grow l k v)))
  grow_keeps_sound = comes.sound

  -- and check 1 says of the table at the end what it says of the one at the start
  pub grow_keeps_shape : shape (in_use (grown l (grow l k v))) ≡ shape (in_use l)
  grow_keeps_shape = comes.shaped

  finds_as : (q : ℕ) → finds (state_of (in_use (grown l (grow l k v))) q) ≡ finds (state_of (in_use l) q) → (find (in_use (grown l (grow l k v))) q).said ≡ (find (in_use l) q).said
  finds_as q = find_same (in_use l) (in_use (grown l (grow l k v))) (passed_size l) (passed_size (grown l (grow l k v))) s grow_keeps_sound grow_keeps_shape refl q

  -- every other key's lookup is as before, by every answer
  pub grow_others : (q : ℕ) → q ≢ k → (find (in_use (grown l (grow l k v))) q).said ≡ (find (in_use l) q).said
  grow_others q n = finds_as q (comes.others q n)

  -- "After NoRoom the table is where its last move put it .. and lookups in a table that was sound are as before the call": so they
  -- are after any refusal
  pub refused_lookups : (n : ℕ) (x : List ℕ) → (grow l k v).said ≡ refused n x → (q : ℕ) → (find (in_use (grown l (grow l k v))) q).said ≡ (find (in_use l) q).said
  refused_lookups n x e q = finds_as q (comes.lookups n x e q)

  -- a move is made only where the key had no cell
  pub moved_lacks : (grow l k v).moves ≢ [] → state_of (in_use l) k ≡ no_cell
  moved_lacks = comes.lacked

  -- an insert that 1, 2 and 3 don't refuse, and that finds room
  module _ (a : Acceptable (in_use l) k v) (room : (x : List ℕ) → (grow l k v).said ≢ refused 6 x) where
    -- answers by the key's state: New where it has no cell, Revived where that is removed, Replaced where it is live
    pub grow_says : (grow l k v).said ≡ inserts (state_of (in_use l) k)
    grow_says = comes.says a room

    -- so after a move it is New
    pub moved_says_new : (grow l k v).moves ≢ [] → (grow l k v).said ≡ new
    moved_says_new m = grow_says ∙ ap inserts (moved_lacks m)

    -- and Revived only where there was no move
    pub revived_unmoved : (grow l k v).said ≡ revived → (grow l k v).moves ≢ [] → ⊥
    revived_unmoved e m = let q = moved_says_new m in let z : ◌≡◌ {A = ℕ} 0 1 = cc in omega arith

    -- the key is found with the value
    pub grow_finds : (find (in_use (grown l (grow l k v))) k).said ≡ found v
    grow_finds =
        find_says_lem (in_use (grown l (grow l k v))) (passed_size (grown l (grow l k v))) grow_keeps_sound k
        ∙ rw (grow_keeps_shape, a.shaped, a.hash, comes.own a room)
