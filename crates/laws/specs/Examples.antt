-- Worked examples 1 to 7 of document 01, as a list of cases over tables of the layout that the code works on. Hasher: Simple.
use Rattle.std.specs.Prelude.{List, [], ◌∷◌, ◌++◌, ℕ, ◌-◌, ◌^◌, replicate}
use Rattle.hashers.specs.declared.Hasher.TheVariants.{Simple}
use Rattle.rules.specs.Answers.{Said, found, new, revived, removed, refused, Answer}
use Rattle.rules.specs.Calls as rule
use Rattle.cells.specs.declared.Table.{Table}
use Rattle.cells.specs.Layout.{counts_of, lent, fresh_words, fresh_deltas, Done, done_by}

pub data Request : Type 0 where
  insert : (k v : ℕ) → Request
  find : (k : ℕ) → Request
  remove : (k : ℕ) → Request

-- a table: its two slices and its live count
pub record State : Type 0 where
  pub words : List ℕ
  pub deltas : List ℕ
  pub live : ℕ

abbrev pub fresh : ℕ → State
fresh S = record { words = fresh_words S; deltas = fresh_deltas S; live = 0 }

abbrev pub table_of : ℕ → Table
table_of live = record { hasher = Simple; live = live }

-- the answers of a run in turn, and the table afterwards
pub record Ran : Type 0 where
  pub answers : List Answer
  pub after : State

abbrev pub state_of : Done → State
state_of d = record { words = d.words; deltas = d.deltas; live = d.counts.live }

abbrev pub told : Done → Ran → Ran
told d r = record { answers = record { said = d.said; looked = d.looked } ∷ r.answers; after = r.after }

abbrev pub done : State → Request → Done
done t (insert k v) = done_by (rule.insert (lent t.words t.deltas (table_of t.live)) k v) t.words t.deltas
done t (remove k) = done_by (rule.remove (lent t.words t.deltas (table_of t.live)) k) t.words t.deltas
done t (find k) =
    let a = rule.find (lent t.words t.deltas (table_of t.live)) k in
    record { said = a.said; looked = a.looked; counts = counts_of t.live; words = t.words; deltas = t.deltas }

unfoldable pub run : List Request → State → Ran
run [] t = record { answers = []; after = t }
run (r ∷ rs) t = told (done t r) (run rs (state_of (done t r)))

-- requests to a fresh table of so many cells, and what they give
pub record Case : Type 0 where
  pub size : ℕ
  pub requests : List Request
  pub gives : Ran

abbrev pub ran : Case → Ran
ran c = run c.requests (fresh c.size)

abbrev pub gives : Case → Ran
gives c = c.gives

-- an answer after so many looks
abbrev pub says : Said → ℕ → Answer
says s n = record { said = s; looked = n }

-- a cell whose hash is its key
abbrev pub cell : (k v : ℕ) → List ℕ
cell k v = k ∷ k ∷ v ∷ []

-- 1 and 2: all New in cells 0, 1, 2, 3, looked 1, 2, 3, 3; all sixteen deltas. Then find 1 looks at 2.
abbrev pub chained : Case
chained =
    record {
      size = 8;
      requests = insert 8 80 ∷ insert 16 160 ∷ insert 24 240 ∷ insert 1 10 ∷ find 1 ∷ [];
      gives =
          record {
            answers = says new 1 ∷ says new 2 ∷ says new 3 ∷ says new 3 ∷ says (found 10) 2 ∷ [];
            after =
                record {
                  words = cell 8 80 ++ cell 16 160 ++ cell 24 240 ++ cell 1 10 ++ fresh_words 4;
                  deltas = 1 ∷ 2 ∷ 0 ∷ 0 ∷ 0 ∷ 1 ∷ 0 ∷ 0 ∷ replicate 8 0;
                  live = 4;
                };
          };
    }

-- 3 and 4: keys 1 to 8; insert 9 is Full, 17, looked 8; insert 2^64 - 1 is Full, 7
abbrev pub crowded : Case
crowded =
    record {
      size = 8;
      requests =
          insert 1 10
          ∷ insert 2 20
          ∷ insert 3 30
          ∷ insert 4 40
          ∷ insert 5 50
          ∷ insert 6 60
          ∷ insert 7 70
          ∷ insert 8 80
          ∷ insert 9 90
          ∷ insert (2 ^ 64 - 1) 90
          ∷ [];
      gives =
          record {
            answers = replicate 8 (says new 1) ++ says (refused 4 (17 ∷ [])) 8 ∷ says (refused 4 (7 ∷ [])) 8 ∷ [];
            after =
                record {
                  words = cell 8 80 ++ cell 1 10 ++ cell 2 20 ++ cell 3 30 ++ cell 4 40 ++ cell 5 50 ++ cell 6 60 ++ cell 7 70;
                  deltas = fresh_deltas 8;
                  live = 8;
                };
          };
    }

-- 5: 2^64 - 1 in cell 7, then 2^64 - 9 in cell 0; the first delta of cell 7 is 1
abbrev pub wrapped : Case
wrapped =
    record {
      size = 8;
      requests = insert (2 ^ 64 - 1) 10 ∷ insert (2 ^ 64 - 9) 20 ∷ [];
      gives =
          record {
            answers = says new 1 ∷ says new 2 ∷ [];
            after =
                record {
                  words = cell (2 ^ 64 - 9) 20 ++ fresh_words 6 ++ cell (2 ^ 64 - 1) 10;
                  deltas = replicate 11 0 ++ 1 ∷ replicate 4 0;
                  live = 2;
                };
          };
    }

-- 6: insert 5, remove 5, insert 5: Revived, live 1
abbrev pub again : Case
again =
    record {
      size = 8;
      requests = insert 5 50 ∷ remove 5 ∷ insert 5 51 ∷ [];
      gives =
          record {
            answers = says new 1 ∷ says (removed 50) 1 ∷ says revived 1 ∷ [];
            after = record { words = fresh_words 5 ++ cell 5 51 ++ fresh_words 2; deltas = fresh_deltas 8; live = 1 };
          };
    }

-- 7: key 0 is refused by 2, value 2^64 - 2 by 3; value 2^64 - 1 is accepted
abbrev pub checked : Case
checked =
    record {
      size = 8;
      requests = insert 0 10 ∷ insert 1 (2 ^ 64 - 2) ∷ insert 1 (2 ^ 64 - 1) ∷ [];
      gives =
          record {
            answers = says (refused 2 []) 0 ∷ says (refused 3 []) 0 ∷ says new 1 ∷ [];
            after = record { words = fresh_words 1 ++ cell 1 (2 ^ 64 - 1) ++ fresh_words 6; deltas = fresh_deltas 8; live = 1 };
          };
    }

abbrev pub examples : List Case
examples = chained ∷ crowded ∷ wrapped ∷ again ∷ checked ∷ []
