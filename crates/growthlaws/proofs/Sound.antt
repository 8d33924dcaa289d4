-- Rounds over a sound table: the table at the end is sound, every other key's lookup is as before, and the answer goes by the key's
-- state. Assumes nothing.
use mathlib.Core.Bool.{true}
use mathlib.Core.List.{List, [], ◌∷◌, ◌++◌}
use mathlib.Core.Logic.{◌≢◌}
use mathlib.Core.Path.{◌≡◌, refl, sym, ap, subst, ◌∙◌}
use Prim.Native.Nat.{ℕ, zero, suc, ◌≤◌}
use native.Mathlib.Omega.{arith}
use borrow.Author.Tests.{ne_eqb}
use Rattle.rules.specs.Sizes.{is_size}
use Rattle.rules.specs.Cells.{Counts, Lent, shape}
use Rattle.rules.specs.Answers.{refused, Change, Outcome}
use Rattle.rules.specs.Calls.{insert}
use Rattle.rules.specs.Moves.{Held, held_after, held_after_all, Became, stays, cleared}
use Rattle.rules.specs.Growing.{Round, GrowOutcome, and_then, answered, refused_at, with_move, round_after, rounds}
use Rattle.rules.specs.Sound.{Sound}
use Rattle.steps.proofs.Branches.{insert_past}
use Rattle.laws.specs.Full.{IsFull}
use Rattle.sound.specs.State.{State, no_cell, removed_cell, live_cell, state_in, state_of, SoundTable, Acceptable, finds, inserts}
use Rattle.sound.proofs.Meeting.{sound_built}
use Rattle.sound.proofs.Keeping.{insert_keeps_sound}
use Rattle.sound.proofs.ByKey.{sound_shape, insert_says_lem, insert_full_lacks, insert_others, insert_makes_live}
use Rattle.movelaws.specs.Carried.{IsClear}
use Rattle.movelaws.specs.Movable.{state_moved}
use Rattle.movelaws.proofs.Carrying.{clear_less}
use Rattle.movelaws.proofs.Sound.{moved_sound, moved_state}
use Rattle.movelaws.proofs.Finding.{finds_moved}
use Rattle.growthlaws.specs.Tries.{MovedInto}
use Rattle.growthlaws.specs.Rounds as ways
use Rattle.growthlaws.specs.Rounds.{params_of, BuiltRound, insert_of, first_of, RoundWay}
use Rattle.movelaws.specs.Plain.{held_become}
use Rattle.growthlaws.proofs.Rounds.{round_way, move_sized}
use Rattle.growthlaws.proofs.Never.{no_trouble}

-- ---- one change more

after_last : (l : List Change) (c : Change) (t : Held) → held_after_all (l ++ c ∷ []) t ≡ held_after c (held_after_all l t)
after_last [] c t = refl
after_last (x ∷ l) c t = after_last l c (held_after x t)

pub become_then : (clear : Held) (u : Became) (c : Change) (t : Held) → held_become clear (and_then u c) t ≡ held_after c (held_become clear u t)
become_then clear (stays l) c t = after_last l c t
become_then clear (cleared l) c t = after_last l c clear

-- ---- rounds

-- a round as a table that is lent
abbrev table_of : (null : ℕ) → (hash_of : ℕ → ℕ) → Round → Lent
table_of null hash_of r =
    record { shaped = true; params = params_of null hash_of r; cells = r.held.cells; value = r.held.value; counts = r.counts }

-- the state of a key in a table of S cells that holds t
abbrev state_at : (null : ℕ) → (hash_of : ℕ → ℕ) → (S : ℕ) → Held → ℕ → State
state_at null hash_of S t q = state_in (record { S = S; null = null; hash_of = hash_of }) t.cells t.value q

-- what comes of a round r, where the table in use holds t at the end
pub record Kept (C null : ℕ) (hash_of : ℕ → ℕ) (k v : ℕ) (r : Round) (g : GrowOutcome) (t : Held) : Type 0 where
  pub size : is_size g.size ≡ true
  pub most : g.size ≤ C
  pub sound : Sound (record { S = g.size; null = null; hash_of = hash_of }) t.cells t.value g.counts
  pub others : (q : ℕ) → q ≢ k → finds (state_at null hash_of g.size t q) ≡ finds (state_of (table_of null hash_of r) q)
  pub lookups : (n : ℕ) (x : List ℕ) → g.said ≡ refused n x → (q : ℕ) → finds (state_at null hash_of g.size t q) ≡ finds (state_of (table_of null hash_of r) q)
  pub says : ((x : List ℕ) → g.said ≢ refused 6 x) → g.said ≡ inserts (state_of (table_of null hash_of r) k)
  pub own : ((x : List ℕ) → g.said ≢ refused 6 x) → state_at null hash_of g.size t k ≡ live_cell v
  pub lacked : g.moves ≢ [] → state_of (table_of null hash_of r) k ≡ no_cell

module _ (C null : ℕ) (hash_of : ℕ → ℕ) (clear : Held) (k v : ℕ) (allowed : is_size C ≡ true) (empty : IsClear null C clear) (some : hash_of k ≢ 0) (nn : v ≢ null) where
  module _ (r : Round) (sized : is_size r.size ≡ true) (u : r.size ≤ C) (s : SoundTable (table_of null hash_of r)) where
    passes : shape (table_of null hash_of r) ≡ 0
    passes = sound_shape (table_of null hash_of r) s refl

    accepted : Acceptable (table_of null hash_of r) k v
    accepted = record { shaped = passes; value = rw (ne_eqb v null nn); hash = rw (ne_eqb (hash_of k) 0 some) }

    as_insert : insert (table_of null hash_of r) k v ≡ insert_of null (hash_of k) k v r
    as_insert = insert_past (table_of null hash_of r) k v passes (hash_of k) refl accepted.value some

    -- NoRoom: the table stays
    refused_kept : (looked : ℕ) (spare : Became) → Kept C null hash_of k v r (refused_at r 6 looked spare) r.held
    refused_kept looked spare =
        record {
          size = sized;
          most = u;
          sound = s;
          others = λ q n. refl;
          lookups = λ n x e q. refl;
          says = λ n. absurd (n [] refl);
          own = λ n. absurd (n [] refl);
          lacked = λ n. absurd (n refl);
        }

    -- an insert that is not Full
    insert_kept : (IsFull (insert (table_of null hash_of r) k v).said → ⊥) → Kept C null hash_of k v r (answered r (insert (table_of null hash_of r) k v)) (held_after (insert (table_of null hash_of r) k v).change r.held)
    insert_kept f =
        record {
          size = sized;
          most = u;
          sound = insert_keeps_sound (table_of null hash_of r) (λ e. sized) s k v;
          others = λ q n. ap finds (insert_others (table_of null hash_of r) (λ e. sized) s k v q n);
          lookups = λ n x e q. absurd (never (state_of (table_of null hash_of r) k) n x (sym by_state ∙ e));
          says = λ n. by_state;
          own = λ n. insert_makes_live (table_of null hash_of r) (λ e. sized) s k v accepted f;
          lacked = λ n. absurd (n refl);
        }
      where
        by_state : (insert (table_of null hash_of r) k v).said ≡ inserts (state_of (table_of null hash_of r) k)
        by_state = rw (passes, accepted.value, accepted.hash) at (insert_says_lem (table_of null hash_of r) (λ e. sized) s k v f)

        never : (y : State) (n : ℕ) (x : List ℕ) → inserts y ≢ refused n x
        never no_cell n x e = let z : ◌≡◌ {A = ℕ} 0 1 = cc in omega arith
        never removed_cell n x e = let z : ◌≡◌ {A = ℕ} 0 1 = cc in omega arith
        never (live_cell w) n x e = let z : ◌≡◌ {A = ℕ} 0 1 = cc in omega arith

    answer_kept : (IsFull (insert_of null (hash_of k) k v r).said → ⊥) → Kept C null hash_of k v r (answered r (insert_of null (hash_of k) k v r)) (held_after (insert_of null (hash_of k) k v r).change r.held)
    answer_kept =
        subst (λ (o : Outcome). (IsFull o.said → ⊥) → Kept C null hash_of k v r (answered r o) (held_after o.change r.held)) as_insert insert_kept

    -- Full is said only where the key has no cell
    full_lacks : IsFull (insert_of null (hash_of k) k v r).said → state_of (table_of null hash_of r) k ≡ no_cell
    full_lacks f = insert_full_lacks (table_of null hash_of r) (λ e. sized) s k v (rw as_insert f)

    built : BuiltRound null hash_of r
    built = record { sized = sized; built = sound_built (params_of null hash_of r) r.held.cells r.held.value r.counts s; counted = s.live_counts }

    module _ (T : ℕ) (c : Counts) (fills : List Change) (m : MovedInto C null r.size r.held r.counts clear (first_of null hash_of (hash_of k) k v r) T c fills) where
      allowed_t : is_size T ≡ true
      allowed_t = move_sized C null hash_of clear (hash_of k) k v allowed r sized T c fills m

      -- the table after a move is sound
      next_sound : SoundTable (table_of null hash_of (round_after r clear T c fills))
      next_sound =
          rw m.filled at
          (moved_sound (params_of null hash_of r) r.held r.counts s T clear allowed_t (clear_less null C T clear m.most empty) c m.ended)

      next_state : (q : ℕ) → state_of (table_of null hash_of (round_after r clear T c fills)) q ≡ state_moved (state_of (table_of null hash_of r) q)
      next_state =
          rw m.filled at
          (moved_state (params_of null hash_of r) r.held r.counts s T clear allowed_t (clear_less null C T clear m.most empty) c m.ended)

      next_finds : (q : ℕ) → finds (state_of (table_of null hash_of (round_after r clear T c fills)) q) ≡ finds (state_of (table_of null hash_of r) q)
      next_finds q = ap finds (next_state q) ∙ finds_moved (state_of (table_of null hash_of r) q)

      -- what holds of the rounds after a move holds of this one
      move_kept : IsFull (insert_of null (hash_of k) k v r).said → (g : GrowOutcome) (t : Held) → Kept C null hash_of k v (round_after r clear T c fills) g t → Kept C null hash_of k v r (with_move T g) t
      move_kept f g t y =
          record {
            size = y.size;
            most = y.most;
            sound = y.sound;
            others = λ q n. y.others q n ∙ next_finds q;
            lookups = λ n x e q. y.lookups n x e q ∙ next_finds q;
            says = λ n. y.says n ∙ ap inserts (next_state k ∙ ap state_moved (full_lacks f) ∙ sym (full_lacks f));
            own = y.own;
            lacked = λ n. full_lacks f;
          }

  -- rounds from a sound table of which the half in use has become r .used, lent as `lent`
  pub rounds_kept : (lent : Held) (left : ℕ) (r : Round) → is_size r.size ≡ true → r.size ≤ C → SoundTable (table_of null hash_of r) → held_become clear r.used lent ≡ r.held
      → Kept C null hash_of k v r (rounds C null hash_of clear (hash_of k) k v left r) (held_become clear (rounds C null hash_of clear (hash_of k) k v left r).used lent)
  unfolding rounds
  rounds_kept lent zero r sized u s e = rw e (refused_kept r sized u s 0 r.spare)
  rounds_kept lent (suc left) r sized u s e = go _ (round_way C null hash_of clear (hash_of k) k v left r allowed) (rounds_kept lent left)
    where
      go : (g : GrowOutcome) → RoundWay C null hash_of clear (hash_of k) k v left r g
          → ((n : Round) → is_size n.size ≡ true → n.size ≤ C → SoundTable (table_of null hash_of n) → held_become clear n.used lent ≡ n.held
          → Kept C null hash_of k v n (rounds C null hash_of clear (hash_of k) k v left n) (held_become clear (rounds C null hash_of clear (hash_of k) k v left n).used lent))
          → Kept C null hash_of k v r g (held_become clear g.used lent)
      go g (ways.answers f q) ih = rw (q, become_then clear r.used (insert_of null (hash_of k) k v r).change lent, e) (answer_kept r sized u s f)
      go g (ways.untried f w q) ih = rw (q, e) (refused_kept r sized u s _ _)
      go g (ways.all_full f w z q) ih = rw (q, e) (refused_kept r sized u s _ _)
      go g (ways.breaks f t q) ih = absurd (no_trouble C null hash_of clear (hash_of k) k v allowed empty some [] r (built r sized u s) t)
      go g (ways.moves f T c fills m q) ih =
          rw q
          (move_kept r sized u s T c fills m f _ _
          (ih (round_after r clear T c fills) (allowed_t r sized u s T c fills m) m.most (next_sound r sized u s T c fills m) refl))
