-- What the growing insert answers: its refusals, its moves, and where the record says that the table is. Assumes nothing.
use mathlib.Core.List.{List, [], ◌∷◌}
use mathlib.Core.Logic.{◌≢◌}
use mathlib.Core.Path.{◌≡◌, refl, sym, ap, subst, ◌∙◌}
use Prim.Native.Nat.{ℕ, suc, ◌+◌, ◌-◌, ◌≤◌}
use native.Mathlib.Omega.{arith}
use lib.ListN.{length}
use Rattle.rules.specs.Sizes.{least_log, greatest_log, probe_limit}
use Rattle.rules.specs.Answers.{refused}
use Rattle.rules.specs.Growing.{in_use}
use Rattle.laws.specs.Full.{last_from}
use Rattle.sound.specs.State.{SoundTable}
use Rattle.parts.specs.Halves.{half_of}
use Rattle.halves.specs.Answers.{Four}
use Rattle.parts.specs.declared.Growing.{Growing}
use Rattle.growth.specs.Growth.{grow_said}
use Rattle.std.specs.Prelude.{Result, Ok, Err}
use Rattle.cells.specs.declared.insert.InsertSaid.{InsertSaid}
use Rattle.cells.specs.declared.insert.InsertSaid.TheVariants as puts
use Rattle.growth.specs.declared.GrowError.{GrowError}
use Rattle.growth.specs.declared.GrowError.TheVariants as errors
use Rattle.growth.specs.declared.GrowAnswer.{GrowAnswer}
use Rattle.growthlaws.specs.Grown.{half_after}
use Rattle.growthlaws.proofs.Never.{grow_never_4, grow_5_before_moves, sound_never_5}
use Rattle.growthlaws.proofs.Looked.{grow_looked_most}
use Rattle.growthlaws.proofs.Moves.{moves_few, grown_where}
use Rattle.grownlaws.specs.Meets.{lent_on, ruled, Meets}
use Rattle.grownlaws.proofs.After.{lent_halves_lem, said_is, looked_is, moves_is, size_is, half_is}

-- 6 is told as NoRoom alone
pub no_room_said : (a : Result InsertSaid GrowError) (x : List ℕ) → grow_said a ≡ refused 6 x → a ≡ Err errors.NoRoom
no_room_said (Err errors.NoRoom) x e = refl
no_room_said (Ok puts.New) x e = let z : ◌≡◌ {A = ℕ} 0 1 = cc in absurd (omega arith)
no_room_said (Ok (puts.Replaced old)) x e = let z : ◌≡◌ {A = ℕ} 0 1 = cc in absurd (omega arith)
no_room_said (Ok puts.Revived) x e = let z : ◌≡◌ {A = ℕ} 0 1 = cc in absurd (omega arith)
no_room_said (Err errors.Shape) x e = let z : ◌≡◌ {A = ℕ} 1 6 = cc in absurd (omega arith)
no_room_said (Err errors.ZeroHash) x e = let z : ◌≡◌ {A = ℕ} 2 6 = cc in absurd (omega arith)
no_room_said (Err errors.Null) x e = let z : ◌≡◌ {A = ℕ} 3 6 = cc in absurd (omega arith)
no_room_said (Err errors.Broken) x e = let z : ◌≡◌ {A = ℕ} 5 6 = cc in absurd (omega arith)

pub none_made : (l : List ℕ) → length l ≡ 0 → l ≡ []
none_made [] e = refl
none_made (T ∷ l) e = absurd (omega arith)

module _ (s : Four) (g : Growing) (k v : ℕ) (r : GrowAnswer) (s' : Four) (m : Meets s g k v r s') where
  -- the growing insert never answers 4
  pub answer_never_4 : (x : List ℕ) → grow_said r.said ≢ refused 4 x
  answer_never_4 x e = grow_never_4 (lent_on s g) k v x (sym (said_is s g k v r s' m) ∙ e)

  -- and 5 only before its first move, whatever table it starts from
  pub answer_5_unmoved : r.said ≡ Err errors.Broken → r.moves ≡ 0
  answer_5_unmoved e =
      moves_is s g k v r s' m
      ∙ ap length (grow_5_before_moves (lent_on s g) (lent_halves_lem s g) k v [] (sym (said_is s g k v r s' m) ∙ ap grow_said e))

  -- and never where its table is sound
  pub answer_never_5 : SoundTable (in_use (lent_on s g)) → r.said ≢ Err errors.Broken
  answer_never_5 t e = sound_never_5 (lent_on s g) (lent_halves_lem s g) k v t [] (sym (said_is s g k v r s' m) ∙ ap grow_said e)

  -- "so at most 13 moves follow the first": as many as there are sizes above the least
  pub answer_moves_few : r.moves ≤ suc (greatest_log - least_log)
  answer_moves_few = subst (λ (n : ℕ). n ≤ suc (greatest_log - least_log)) (sym (moves_is s g k v r s' m)) (moves_few (lent_on s g) (lent_halves_lem s g) k v)

  -- the last insert walk looks at no more than S cells and 128, S being the size that the record has now
  pub answer_looked_most : r.looked ≤ r.growing.size + probe_limit
  answer_looked_most = rw (looked_is s g k v r s' m, size_is s g k v r s' m) (grow_looked_most (lent_on s g) (lent_halves_lem s g) k v)

  -- "the table is where its last move put it, the record says where": its size is that of the last move, its half the other one after
  -- each
  pub record_where : (r.growing.size ≡ last_from g.size (ruled s g k v).moves) × (half_of r.growing.half ≡ half_after (ruled s g k v).moves (half_of g.half))
  record_where =
      let w = grown_where (lent_on s g) (lent_halves_lem s g) k v in
      (size_is s g k v r s' m ∙ w.0, half_is s g k v r s' m ∙ w.1)
