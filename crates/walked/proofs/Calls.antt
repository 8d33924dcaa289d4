-- The calls of Cursor::step, one after the other, hand back a lent table's live cells in index order, and then the end. Assumes nothing.
use mathlib.Core.List.{List, [], ◌∷◌, ◌++◌}
use mathlib.Core.Path.{◌≡◌, refl, ap, ◌∙◌}
use Prim.Native.Nat.{ℕ, ◌+◌}
use lib.ListN.{length, replicate}
use Rattle.rules.specs.Cells.{Lent, shape}
use Rattle.rules.specs.Cursor.{start, StepSaid, end, Step, step}
use Rattle.cells.specs.declared.Table.{Table}
use Rattle.cells.specs.Layout.{lent}
use Rattle.hashiter.specs.declared.Cursor.{Cursor}
use Rattle.hashiter.specs.declared.Stepped.{Stepped}
use Rattle.walked.specs.Walked.{says, live_cells}
use Rattle.walked.specs.Calls.{Called, said_by}
use Rattle.walked.proofs.Walks.{says_live_then_end}

-- calls say what the rule's steps say
pub calls_say : (l : Lent) (c : Cursor) (rs : List Stepped) → Called l c rs → said_by rs ≡ says l (length rs) c.position
unfolding says
calls_say l c [] e = refl
calls_say l c (r ∷ rs) e =
    let s = ap (λ (x : Step). x.said) e.0 in
    let p = ap (λ (x : Step). x.position) e.0 in
    ap (λ (x : StepSaid). x ∷ said_by rs) s
    ∙ ap (λ (xs : List StepSaid). (step l c.position).said ∷ xs) (calls_say l r.cursor rs e.1 ∙ ap (says l (length rs)) p)

-- from the start: each live cell once, in index order, and then the end as often as is asked
pub calls_walk : (ws ds : List ℕ) (t : Table) → shape (lent ws ds t) ≡ 0
    → (c : Cursor) → c.position ≡ start → (rs : List Stepped) → Called (lent ws ds t) c rs
    → (m : ℕ) → length rs ≡ length (live_cells (lent ws ds t)) + m
    → said_by rs ≡ live_cells (lent ws ds t) ++ replicate {A = StepSaid} m end
calls_walk ws ds t a c p rs e m n =
    calls_say (lent ws ds t) c rs e
    ∙ ap (λ (x : ℕ). says (lent ws ds t) x c.position) n
    ∙ ap (says (lent ws ds t) (length (live_cells (lent ws ds t)) + m)) p
    ∙ says_live_then_end (lent ws ds t) a start m
