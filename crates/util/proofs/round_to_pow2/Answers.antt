-- `util::round_to_pow2` meets its contract: the power is the length of x - 1 in binary digits. Assumes nothing.
use borrow.Author.Rules.{rules}
use mathlib.Core.Path.{◌≡◌, sym, ap, ◌∙◌}
use Prim.Native.Nat.{ℕ, ◌*◌, ◌-◌, ◌%◌, ◌^◌}
use native.Mathlib.Nat.{one-mul, mod-eq_of_lt}
use native.Mathlib.Omega.{arith}
use lib.Count.{count_leading_zeros, leading_le}
use lib.Pow.{pow-lt}
use Rattle.util.proofs.Powers.{round_is, round_length}
use Rattle.util.proofs.round_to_pow2.Goals as goal

pub overflow_sub-result-2 : goal.overflow_sub-result-2
overflow_sub-result-2 c = leading_le 64 (c.args.x - 1)

pub overflow_shl-result : goal.overflow_shl-result
overflow_shl-result c =
    let b = round_length c.args.x (search rules) (search rules) in
    omega (arith, b.1, b.2)

pub returns : goal.returns
returns c =
    let x = c.args.x in
    let b = round_length x (search rules) (search rules) in
    let e : 64 - count_leading_zeros 64 (x - 1) ≡ b.0 = omega (arith, b.1) in
    ap (λ (k : ℕ). 1 * 2 ^ k % 2 ^ 64) e ∙ ap (λ (t : ℕ). t % 2 ^ 64) (one-mul (2 ^ b.0)) ∙ mod-eq_of_lt (pow-lt b.2)
    ∙ sym (round_is x b.0 (search rules) (search rules) b.3 b.4)
