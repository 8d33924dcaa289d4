-- How the tries after Full end: for a table of S cells with the counts c, from the size F on, into halves of C cells.
use Rattle.std.specs.Prelude.{List, [], ◌≢◌, ◌≡◌, ℕ, ◌*◌, ◌^◌, ◌≤◌, ◌<◌}
use Rattle.rules.specs.Cells.{Counts}
use Rattle.rules.specs.Answers.{Change}
use Rattle.rules.specs.Moves.{Held, Became, cleared, all, stop, move_all}
use Rattle.rules.specs.Growing.{Tries, moved, no_room, broken}

-- a try of T was Full
pub record FullAt (null S : ℕ) (from : Held) (c : Counts) (clear : Held) (T : ℕ) : Type 0 where
  pub carried : List ℕ
  pub ended : (move_all null S from c T clear).ended ≡ stop 4 carried

module _ (C null S : ℕ) (from : Held) (c : Counts) (clear : Held) (F : ℕ) where
  -- all went over into T cells: F doubled as often as sizes were Full before
  pub record MovedInto (T : ℕ) (c' : Counts) (fills : List Change) : Type 0 where
    pub before : ℕ
    pub size : T ≡ F * 2 ^ before
    pub full : (j : ℕ) → j < before → FullAt null S from c clear (F * 2 ^ j)
    pub least : F ≤ T
    pub most : T ≤ C
    pub ended : (move_all null S from c T clear).ended ≡ all c'
    pub filled : (move_all null S from c T clear).fills ≡ fills

  -- a try met other trouble than Full
  pub record Trouble : Type 0 where
    pub before : ℕ
    pub most : F * 2 ^ before ≤ C
    pub number : ℕ
    pub carried : List ℕ
    pub ended : (move_all null S from c (F * 2 ^ before) clear).ended ≡ stop number carried
    pub other : number ≢ 4

  pub data TriesWay (spare : Became) (t : Tries) : Type 0 where
    -- the first size is above C: nothing is tried, and the spare half is left
    untried : C < F → t ≡ record { end = no_room; spare = spare } → TriesWay spare t
    -- every size up to C was tried, and was Full
    all_full : F ≤ C → ((j : ℕ) → F * 2 ^ j ≤ C → FullAt null S from c clear (F * 2 ^ j)) → t ≡ record { end = no_room; spare = cleared [] } → TriesWay spare t
    breaks : Trouble → t ≡ record { end = broken; spare = cleared [] } → TriesWay spare t
    moves : (T : ℕ) (c' : Counts) (fills : List Change) → MovedInto T c' fills → t ≡ record { end = moved T c' fills; spare = cleared fills } → TriesWay spare t
