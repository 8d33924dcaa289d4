use Rattle.std.proofs.Common.{◌≡◌, ◌≤◌, ℕ, List, ◌++◌, length, take, min, ◌+◌, ◌-◌, sym, ap, ◌∙◌, arith}
use Rattle.std.proofs.lemmas.List.{take_min, length-take}
use Rattle.std.proofs.lemmas.Slice.{take-put_mid}
use Rattle.std.proofs.Math.Nat.{min_comm}
use Rattle.std.proofs.Math.Seq.{take-append-add}
use borrow.Rule.Slice.PartMut.{put_mid}
use Rattle.forms.proofs.line.Line.extend.Goals as goal

-- the bytes that are used, and as many of the others as fit
extended : (N u k n : ℕ) (xs bs ys : List ℕ) → length xs ≡ N → u ≤ N → n ≡ min (length bs) (N - u) → ys ≡ take n bs → take (u + n) (put_mid u k xs ys) ≡ take N (take u xs ++ bs)
extended N u k n xs bs ys p q r s =
    let whole : N ≡ length (take u xs) + (N - u) = omega (arith, length-take u xs) in
    let count : length ys ≡ n = ap length s ∙ length-take n bs ∙ omega arith in
    let front = take-put_mid u k xs ys (u + n) (omega arith) (omega arith) in
    let cut : ys ≡ take (N - u) bs = s ∙ ap (λ m. take m bs) (r ∙ min_comm (length bs) (N - u)) ∙ take_min (N - u) bs in
    let back = ap (λ m. take m (take u xs ++ bs)) whole ∙ take-append-add (take u xs) bs (N - u) in
    front ∙ ap (λ l. take u xs ++ l) cut ∙ sym back

pub returns : goal.returns
returns g c =
    let put = extended _ _ _ _ _ _ _ c.self.told c.self.invariant c.min-n.ensures c.copy_from_slice.ensures.after in
    put ∙ ap (λ l. take g.row.N (l ++ c.args.bytes.now)) c.self.view_is
