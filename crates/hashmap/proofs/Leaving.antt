-- What a call left, from what its worker did: the hasher stays. Assumes nothing.
use mathlib.Core.List.{List}
use mathlib.Core.Path.{◌≡◌, ◌∙◌}
use Prim.Native.Nat.{ℕ}
use Rattle.rules.specs.Answers.{Said, Outcome}
use Rattle.cells.specs.Layout.{Done, done_by, left_by}
use Rattle.cells.specs.declared.Table.{Table}

pub as_left : (o : Outcome) (t : Table) (ws ds : List ℕ) {d : Done} → d ≡ done_by o ws ds → record { done = d; hasher = t.hasher } ≡ left_by o t ws ds
as_left o t ws ds e = λ i. record { done = e i; hasher = t.hasher }

-- what was done, with its answer in other words
pub resaid : {s : Said} {d d' : Done} → s ≡ d.said → d ≡ d' → record { said = s; looked = d.looked; counts = d.counts; words = d.words; deltas = d.deltas } ≡ d'
resaid {d = d} e p = (λ i. record { said = e i; looked = d.looked; counts = d.counts; words = d.words; deltas = d.deltas }) ∙ p
