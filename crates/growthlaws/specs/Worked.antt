-- Worked example 8 of document 01, its second sentence: with C = 8, live 4 is moved and 5 is NoRoom. Two tables of 8 cells, with keys 1
-- to 8 of which some are removed, in the lower of two halves of 8 cells; 9 is inserted. Hasher: Simple.
use Rattle.std.specs.Prelude.{true, List, [], ◌∷◌, ◌++◌, ℕ}
use Rattle.hashers.specs.declared.Hasher.TheVariants.{Simple}
use Rattle.hashers.specs.Keys.{hash_of}
use Rattle.rules.specs.Answers.{new, refused, unlinked, as_first, fill}
use Rattle.rules.specs.Moves.{stays, cleared}
use Rattle.rules.specs.Growing.{lower, upper, LentHalves, GrowOutcome, grow}
use Rattle.cells.specs.Layout.{null, view, value_in, fresh_words, fresh_deltas}

-- what is lent to an insert of 9 with the value 90, and what that gives
pub record Case : Type 0 where
  pub lent : LentHalves
  pub gives : GrowOutcome

abbrev pub ran : Case → GrowOutcome
ran c = grow c.lent 9 90

abbrev pub gives : Case → GrowOutcome
gives c = c.gives

-- a cell whose hash is its key, and whose value is ten times that; or removed
abbrev pub cell : (k v : ℕ) → List ℕ
cell k v = k ∷ k ∷ v ∷ []

abbrev pub eight : (words : List ℕ) → (live : ℕ) → LentHalves
eight words live =
    record {
      shaped = true;
      C = 8;
      size = 8;
      half = lower;
      null = null;
      hash_of = hash_of Simple;
      used = record { cells = view words (fresh_deltas 8); value = value_in words };
      clear = record { cells = view (fresh_words 8) (fresh_deltas 8); value = value_in (fresh_words 8) };
      counts = record { live = live };
    }

-- live 4: they are moved to 8 cells of the upper half, where 9 is New in cell 4
abbrev pub four : Case
four =
    record {
      lent = eight (cell 8 80 ++ cell 1 10 ++ cell 2 20 ++ cell 3 30 ++ cell 4 null ++ cell 5 null ++ cell 6 null ++ cell 7 null) 4;
      gives =
          record {
            said = new;
            looked = 4;
            counts = record { live = 5 };
            size = 8;
            half = upper;
            used = cleared (fill 0 8 8 80 unlinked ∷ fill 1 1 1 10 unlinked ∷ fill 2 2 2 20 unlinked ∷ fill 3 3 3 30 unlinked ∷ fill 4 9 9 90 (as_first 1 3) ∷ []);
            spare = cleared [];
            moves = 8 ∷ [];
          };
    }

-- live 5: the next size, 16, is above C, and nothing is tried
abbrev pub five : Case
five =
    record {
      lent = eight (cell 8 80 ++ cell 1 10 ++ cell 2 20 ++ cell 3 30 ++ cell 4 40 ++ cell 5 null ++ cell 6 null ++ cell 7 null) 5;
      gives =
          record {
            said = refused 6 [];
            looked = 8;
            counts = record { live = 5 };
            size = 8;
            half = lower;
            used = stays [];
            spare = stays [];
            moves = [];
          };
    }

abbrev pub examples : List Case
examples = four ∷ five ∷ []
