-- A table or half on its two slices: what it holds, what it holds once cleared, and what becomes of it.
use Rattle.std.specs.Prelude.{List, [], ◌∷◌, ℕ}
use Rattle.rules.specs.Answers.{Change}
use Rattle.rules.specs.Moves.{Held, Became, stays, cleared}
use Rattle.cells.specs.Layout.{view, value_in, fresh_words, fresh_deltas, words_after, deltas_after}

abbrev pub held_in : List ℕ → List ℕ → Held
held_in ws ds = record { cells = view ws ds; value = value_in ws }

-- C cells once cleared
abbrev pub clear_held : ℕ → Held
clear_held C = held_in (fresh_words C) (fresh_deltas C)

-- the changes of a list, in its order
abbrev pub words_after_all : List Change → List ℕ → List ℕ
words_after_all [] ws = ws
words_after_all (c ∷ l) ws = words_after_all l (words_after c ws)

abbrev pub deltas_after_all : List Change → List ℕ → List ℕ
deltas_after_all [] ds = ds
deltas_after_all (c ∷ l) ds = deltas_after_all l (deltas_after c ds)

-- what becomes of slices of C cells
abbrev pub words_become : ℕ → Became → List ℕ → List ℕ
words_become C (stays l) ws = words_after_all l ws
words_become C (cleared l) ws = words_after_all l (fresh_words C)

abbrev pub deltas_become : ℕ → Became → List ℕ → List ℕ
deltas_become C (stays l) ds = deltas_after_all l ds
deltas_become C (cleared l) ds = deltas_after_all l (fresh_deltas C)
