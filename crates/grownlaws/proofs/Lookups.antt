-- The growing insert on the slices of a sound table: it stays sound by every answer, a key that is put in is found with its value, and
-- every other lookup is as before. A find on a growing table says what these finds say. Assumes nothing.
use mathlib.Core.List.{List}
use mathlib.Core.Logic.{◌≢◌}
use mathlib.Core.Path.{◌≡◌, sym, ap, subst, ◌∙◌}
use Prim.Native.Nat.{ℕ}
use Rattle.rules.specs.Cells.{shape}
use Rattle.rules.specs.Answers.{found, refused}
use Rattle.rules.specs.Calls.{find}
use Rattle.rules.specs.Growing.{LentHalves, in_use}
use Rattle.sound.specs.State.{SoundTable, Acceptable, state_of, inserts}
use Rattle.halves.specs.Answers.{Four}
use Rattle.parts.specs.declared.Growing.{Growing}
use Rattle.growth.specs.Growth.{grow_said}
use Rattle.std.specs.Prelude.{Err}
use Rattle.growth.specs.declared.GrowError.TheVariants as errors
use Rattle.growth.specs.declared.GrowAnswer.{GrowAnswer}
use Rattle.growthlaws.proofs.Lookups.{grow_keeps_sound, grow_keeps_shape, grow_others, refused_lookups, grow_says, grow_finds}
use Rattle.grownlaws.specs.Meets.{lent_on, ruled, Meets}
use Rattle.grownlaws.proofs.After.{lent_halves_lem, said_is, lent_after_grow}
use Rattle.grownlaws.proofs.Answers.{no_room_said}

module _ (s : Four) (g : Growing) (k v : ℕ) (r : GrowAnswer) (s' : Four) (m : Meets s g k v r s') (t : SoundTable (in_use (lent_on s g))) where
  -- soundness is kept, by every answer
  pub answer_keeps_sound : SoundTable (in_use (lent_on s' r.growing))
  answer_keeps_sound =
      subst (λ (l : LentHalves). SoundTable (in_use l)) (sym (lent_after_grow s g k v r s' m)) (grow_keeps_sound (lent_on s g) (lent_halves_lem s g) t k v)

  -- and check 1 says of what was left what it said of what was lent
  pub answer_keeps_shape : shape (in_use (lent_on s' r.growing)) ≡ shape (in_use (lent_on s g))
  answer_keeps_shape =
      ap (λ (l : LentHalves). shape (in_use l)) (lent_after_grow s g k v r s' m) ∙ grow_keeps_shape (lent_on s g) (lent_halves_lem s g) t k v

  -- every other key's lookup is as before, by every answer
  pub answer_others : (q : ℕ) → q ≢ k → (find (in_use (lent_on s' r.growing)) q).said ≡ (find (in_use (lent_on s g)) q).said
  answer_others q n =
      ap (λ (l : LentHalves). (find (in_use l) q).said) (lent_after_grow s g k v r s' m) ∙ grow_others (lent_on s g) (lent_halves_lem s g) t k v q n

  -- "lookups in a table that was sound are as before the call": after NoRoom, and after any other refusal
  pub refused_answer_lookups : (n : ℕ) (x : List ℕ) → grow_said r.said ≡ refused n x
      → (q : ℕ) → (find (in_use (lent_on s' r.growing)) q).said ≡ (find (in_use (lent_on s g)) q).said
  refused_answer_lookups n x e q =
      ap (λ (l : LentHalves). (find (in_use l) q).said) (lent_after_grow s g k v r s' m)
      ∙ refused_lookups (lent_on s g) (lent_halves_lem s g) t k v n x (sym (said_is s g k v r s' m) ∙ e) q

  -- an insert that 1, 2 and 3 don't refuse, and that finds room
  module _ (a : Acceptable (in_use (lent_on s g)) k v) (room : r.said ≢ Err errors.NoRoom) where
    no_6 : (x : List ℕ) → (ruled s g k v).said ≢ refused 6 x
    no_6 x e = room (no_room_said r.said x (said_is s g k v r s' m ∙ e))

    -- answers by the key's state: New where it has no cell, Revived where that is removed, Replaced where it is live
    pub answer_says : grow_said r.said ≡ inserts (state_of (in_use (lent_on s g)) k)
    answer_says = said_is s g k v r s' m ∙ grow_says (lent_on s g) (lent_halves_lem s g) t k v a no_6

    -- and the key is found with the value
    pub answer_finds : (find (in_use (lent_on s' r.growing)) k).said ≡ found v
    answer_finds = ap (λ (l : LentHalves). (find (in_use l) k).said) (lent_after_grow s g k v r s' m) ∙ grow_finds (lent_on s g) (lent_halves_lem s g) t k v a no_6
