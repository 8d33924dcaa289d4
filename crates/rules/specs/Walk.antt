-- The walk, rule by rule, with the list of positions that it looks at.
use Rattle.std.specs.Prelude.{cond, List, [], ◌∷◌, ℕ, zero, suc, ◌+◌, ◌-◌, ◌%◌, ◌^◌, eqb}
use Rattle.rules.specs.Sizes.{window}
use Rattle.rules.specs.Cells.{Cells, holds}

-- 1. A position is a whole 64-bit number, and a sum of positions wraps. Only where a cell is read is it reduced, by `% S`.
abbrev pub on : ℕ → ℕ → ℕ
on p d = (p + d) % 2 ^ 64

-- where a walk stops: at the position met, at the tail, or broken
pub data Stop : Type 0 where
  met : ℕ → Stop
  tail : ℕ → Stop
  broken : Stop

-- the positions looked at, in order, and the stop
pub record Walk : Type 0 where
  pub seen : List ℕ
  pub stop : Stop

abbrev pub stopped : Stop → Walk
stopped s = record { seen = []; stop = s }

abbrev pub looking : ℕ → Walk → Walk
looking p w = record { seen = p ∷ w.seen; stop = w.stop }

-- 3. From position p, looked at and not met, follow the delta d, with so many links left. A delta of 0 ends the chain at its
-- tail; with no link left any other is Broken.
unfoldable pub follow : (S : ℕ) → Cells → (h k left p d : ℕ) → Walk
follow S cs h k zero p d = cond (eqb d 0) (stopped (tail p)) (stopped broken)
follow S cs h k (suc left) p d =
    let q = on p d in
    let rest = follow S cs h k left q (cs.second (q % S)) in
    cond (eqb d 0) (stopped (tail p)) (looking q (cond (holds cs (q % S) h k) (stopped (met q)) rest))

-- 1, 2. Start at the hash, whose cell is the home; not met there, follow the home's first delta, at most S - 1 links.
unfoldable pub walk : (S : ℕ) → Cells → (h k : ℕ) → Walk
walk S cs h k =
    looking h (cond (holds cs (h % S) h k) (stopped (met h)) (follow S cs h k (S - 1) h (cs.first (h % S))))

-- what a probe finds: the distance of the first empty cell, or none
pub data Hit : Type 0 where
  free : ℕ → Hit
  none : Hit

pub record Probe : Type 0 where
  pub seen : List ℕ
  pub hit : Hit

-- 4. Past the tail p, so many positions in turn from distance d on: the first whose cell is empty
unfoldable pub probe : (S : ℕ) → (hash : ℕ → ℕ) → (p left d : ℕ) → Probe
probe S hash p zero d = record { seen = []; hit = none }
probe S hash p (suc left) d =
    let q = on p d in
    let rest = probe S hash p left (d + 1) in
    cond (eqb (hash (q % S)) 0) (record { seen = q ∷ []; hit = free d }) (record { seen = q ∷ rest.seen; hit = rest.hit })

-- the probe of the whole window past a tail
abbrev pub probe_from : (S : ℕ) → Cells → ℕ → Probe
probe_from S cs p = probe S cs.hash p (window S) 1
