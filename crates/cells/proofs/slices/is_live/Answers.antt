-- `cells::slices::is_live` meets its contract. Assumes nothing.
use Rattle.std.proofs.Common.{◌≡◌, ℕ, Bool, false, not, ◌&&◌, eqb, sym, ◌∙◌, eq-eqb, ne_eqb}
use Rattle.cells.specs.Layout.{null}
use Rattle.cells.proofs.slices.is_live.Goals as goal

empty : (r h : ℕ) (b : Bool) → r ≡ h → r ≡ 0 → false ≡ not (eqb h 0) && b
empty r h b e z = sym (rw (eq-eqb h 0 (sym e ∙ z)))

taken : (r h u v : ℕ) → r ≡ h → (r ≡ 0 → ⊥) → u ≡ v → not (eqb u null) ≡ not (eqb h 0) && not (eqb v null)
taken r h u v e n q = rw (ne_eqb h 0 (λ z. n (e ∙ z)), q)

pub returns-then-hash-eq0 : goal.returns-then-hash-eq0
returns-then-hash-eq0 c = empty _ _ _ c.hash_at-hash.ensures c.if-hash-eq0.true

pub returns : goal.returns
returns c = taken _ _ _ _ c.hash_at-hash.ensures c.if-hash-eq0.false c.value_at-value.ensures
