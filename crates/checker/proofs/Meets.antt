-- Where the walk for a cell's own hash and key stops. Assumes nothing.
use Rattle.std.proofs.Common.{◌≡◌, ℕ, sym, ap, ◌∙◌}
use Rattle.rules.specs.Cells.{Cells}
use Rattle.rules.specs.Walk.{Stop, walk}
use Rattle.steps.specs.Steps.{Ends}
use Rattle.checker.specs.Check.{met_test, stops_at}

pub stops_so : (S : ℕ) (cs : Cells) (i h k : ℕ) {s : Stop} {n : ℕ} → Ends s n (walk S cs h k) → h ≡ cs.hash i → k ≡ cs.key i → (s' : Stop) → s ≡ s' → stops_at S i s' ≡ met_test S cs i
unfolding met_test
stops_so S cs i h k w eh ek s' e = ap (stops_at S i) (sym e ∙ w.stop) ∙ (λ t. stops_at S i (walk S cs (eh t) (ek t)).stop)
