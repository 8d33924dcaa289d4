-- What a call says, what it changes, and what it leaves in the record.
use Rattle.std.specs.Prelude.{cond, List, [], ℕ, zero, suc, ◌+◌, ◌-◌, eqb, ltb}
use Rattle.rules.specs.Cells.{Cells, Counts}

pub data Said : Type 0 where
  found : ℕ → Said
  absent : Said
  new : Said
  replaced : ℕ → Said
  revived : Said
  removed : ℕ → Said
  -- a refusal by its number, with what it carries
  refused : ℕ → List ℕ → Said

-- where the distance of a new cell is written: nowhere, or as the first or the second delta of a cell
pub data Link : Type 0 where
  unlinked : Link
  as_first : (i d : ℕ) → Link
  as_second : (i d : ℕ) → Link

-- what a call changes: nothing, the value of cell i, or cell i whole with the link to it
pub data Change : Type 0 where
  nothing : Change
  store : (i v : ℕ) → Change
  fill : (i h k v : ℕ) → Link → Change

-- an answer, and how many cells were looked at
pub record Answer : Type 0 where
  pub said : Said
  pub looked : ℕ

-- an answer, the cells looked at, the counts after it, and the change
pub record Outcome : Type 0 where
  pub said : Said
  pub looked : ℕ
  pub counts : Counts
  pub change : Change

-- an answer that leaves all
abbrev pub leave : Said → ℕ → Counts → Outcome
leave s n c = record { said = s; looked = n; counts = c; change = nothing }

-- a check: where it gives a number, that is the refusal, with nothing looked at and all left
abbrev pub unless : ℕ → Counts → Outcome → Outcome
unless zero c o = o
unless (suc n) c o = leave (refused (suc n) []) 0 c

abbrev pub unless_found : ℕ → Answer → Answer
unless_found zero a = a
unless_found (suc n) a = record { said = refused (suc n) []; looked = 0 }

-- ---- the counts after an answer

pub data Counted : Type 0 where
  is : Counts → Counted
  out : Counted

-- New and Revived add 1 to live, Removed takes 1; live stays within 0..S
abbrev pub counts_after : ℕ → Counts → Said → Counted
counts_after S c new = cond (ltb c.live S) (is (record { live = c.live + 1 })) out
counts_after S c revived = cond (ltb c.live S) (is (record { live = c.live + 1 })) out
counts_after S c (removed v) = cond (eqb c.live 0) out (is (record { live = c.live - 1 }))
counts_after S c (found v) = is c
counts_after S c absent = is c
counts_after S c (replaced v) = is c
counts_after S c (refused n l) = is c

abbrev pub counted : Said → ℕ → Counts → Change → Counted → Outcome
counted s n c change (is c') = record { said = s; looked = n; counts = c'; change = change }
counted s n c change out = leave (refused 5 []) n c

-- an answer with its change, or Broken where the counts would leave their range
unfoldable pub settle : ℕ → Counts → ℕ → Said → Change → Outcome
settle S c n s change = counted s n c change (counts_after S c s)

-- ---- what a change makes of the cells

abbrev pub changed_at : ℕ → ℕ → (ℕ → ℕ) → ℕ → ℕ
changed_at i v f j = cond (eqb j i) v (f j)

abbrev pub first_linked : Link → (ℕ → ℕ) → ℕ → ℕ
first_linked unlinked f = f
first_linked (as_first i d) f = changed_at i d f
first_linked (as_second i d) f = f

abbrev pub second_linked : Link → (ℕ → ℕ) → ℕ → ℕ
second_linked unlinked f = f
second_linked (as_first i d) f = f
second_linked (as_second i d) f = changed_at i d f

abbrev pub changed : Change → Cells → Cells
changed nothing cs = cs
changed (store i v) cs = cs
changed (fill i h k v l) cs =
    record { hash = changed_at i h cs.hash; key = changed_at i k cs.key; first = first_linked l cs.first; second = second_linked l cs.second }

abbrev pub value_changed : Change → (ℕ → ℕ) → ℕ → ℕ
value_changed nothing value = value
value_changed (store i v) value = changed_at i v value
value_changed (fill i h k v l) value = changed_at i v value
