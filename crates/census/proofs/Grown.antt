-- A growing insert is a step of the table in use, by every answer: moves inside change no key, nor does NoRoom after them. Assumes
-- nothing.
use mathlib.Core.List.{List, []}
use mathlib.Core.Logic.{◌≢◌, ◌⊎◌, inl, inr}
use mathlib.Core.Path.{◌≡◌, refl, ap, ◌∙◌}
use Prim.Native.Nat.{ℕ}
use Rattle.rules.specs.Cells.{shape, offered, zero_hash}
use Rattle.rules.specs.Answers.{refused}
use Rattle.rules.specs.Moves.{stays}
use Rattle.rules.specs.Growing.{LentHalves, in_use, GrowOutcome, refused_at, rounds, most_rounds, start, grow}
use Rattle.sound.specs.State.{state_of, SoundTable}
use Rattle.sound.proofs.Keeping.{zero_passes, offered_passes}
use Rattle.growthlaws.specs.Grown as checks
use Rattle.movelaws.specs.Plain.{held_become}
use Rattle.growthlaws.specs.Grown.{Halves, GrowChecked, grown}
use Rattle.growthlaws.proofs.Checks.{grow_checked, passed_size, passed_most, passed_c, passed_clear}
use Rattle.growthlaws.proofs.Sound.{Kept, rounds_kept}
use Rattle.census.specs.Steps.{Step}
use Rattle.census.specs.Events.{event_by}
use Rattle.census.proofs.Keys.{put_step, finds_step, stay}
use Rattle.census.proofs.Fixed.{refused_or, inserts_put}

module _ (l : LentHalves) (f : Halves l) (s : SoundTable (in_use l)) (k v : ℕ) where
  abbrev Stepped : GrowOutcome → Type 0
  Stepped g = Step (in_use l) (event_by k g.said) (in_use (grown l g))

  -- a check refused it
  left : (n : ℕ) → Stepped (refused_at (start l) n 0 (stays []))
  left n = stay (in_use l) s

  -- past the checks
  abbrev g : GrowOutcome
  g = rounds l.C l.null l.hash_of l.clear (l.hash_of k) k v most_rounds (start l)

  ran : shape (in_use l) ≡ 0 → offered l.null v ≡ 0 → zero_hash (l.hash_of k) ≡ 0 → Stepped g
  ran a b d = go (refused_or g.said)
    where
      y : Kept l.C l.null l.hash_of k v (start l) g (held_become l.clear g.used l.used)
      y = rounds_kept l.C l.null l.hash_of l.clear k v (passed_c l a f) (passed_clear l a f) (zero_passes _ d) (offered_passes l.null v b)
          l.used most_rounds (start l) (passed_size l a) (passed_most l a) s refl

      go : ((n : ℕ) × (x : List ℕ) × (g.said ≡ refused n x)) ⊎ ((n : ℕ) (x : List ℕ) → g.said ≢ refused n x) → Stepped g
      go (inl r) = rw (ap (event_by k) r.2) (finds_step (in_use l) (in_use (grown l g)) y.sound (y.lookups r.0 r.1 r.2))
      go (inr n) =
          rw (ap (event_by k) (y.says (n 6)) ∙ inserts_put k (state_of (in_use l) k))
          (put_step (in_use l) (in_use (grown l g)) y.sound k y.others (v, y.own (n 6)))

  -- a growing insert
  pub grow_step : Step (in_use l) (event_by k (grow l k v).said) (in_use (grown l (grow l k v)))
  grow_step = go _ (grow_checked l k v)
    where
      go : (g : GrowOutcome) → GrowChecked l k v g → Stepped g
      go g (checks.by1 a e) = rw e (left 1)
      go g (checks.by3 a b e) = rw e (left 3)
      go g (checks.by2 a b d e) = rw e (left 2)
      go g (checks.past a b d e) = rw e (ran a b d)
