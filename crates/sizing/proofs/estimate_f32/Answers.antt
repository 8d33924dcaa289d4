-- `sizing::estimate_f32` meets its contract: its literals are the definition's. Assumes nothing.
use Rattle.std.proofs.Common.{true, false, T, pos, sym, ap, ◌∙◌, subst, arith}
use lib.Ieee.{fin, lt, to_unsigned}
use Rattle.steps.proofs.Sizes.{size_greatest}
use Rattle.sizing.proofs.Twin.{cast_fits, coded_is, estimate_above, estimate_under}
use Rattle.sizing.proofs.estimate_f32.Goals as goal

pub int_to_float-in_use : goal.int_to_float-in_use
int_to_float-in_use c = cast_fits _ (omega (arith, size_greatest _ c.requires.0))

pub truncating_f32_to_u64-requires : goal.truncating_f32_to_u64-requires
truncating_f32_to_u64-requires c =
    let p = c.requires in
    record {
      lower_bound = subst (λ x. T (lt (fin true 1 (pos 0)) x)) (sym (coded_is _ _)) (estimate_above _ _ p.0 p.1);
      upper_bound = subst (λ x. T (lt x (fin false 1 (pos 64)))) (sym (coded_is _ _)) (estimate_under _ _ p.0 p.1);
    }

pub returns : goal.returns
returns c = c.truncating_f32_to_u64.ensures ∙ ap (to_unsigned 64) (coded_is _ _)
