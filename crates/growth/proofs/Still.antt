-- A round that does not move: what it leaves is what the rules say of the whole call. Assumes nothing.
use mathlib.Core.List.{List, [], ◌∷◌, ◌++◌}
use mathlib.Core.Path.{◌≡◌, refl, sym, ap, ◌∙◌}
use Prim.Native.Nat.{ℕ}
use Rattle.hashers.specs.declared.Hasher.{Hasher}
use Rattle.rules.specs.Answers.{Said, refused, Change}
use Rattle.rules.specs.Moves.{Became, stays, cleared}
use Rattle.rules.specs.Growing as rule
use Rattle.rules.specs.Growing.{GrowOutcome, and_then}
use Rattle.cells.specs.Layout.{words_after, deltas_after, fresh_words, fresh_deltas}
use Rattle.moving.specs.Slices.{words_after_all, deltas_after_all, words_become, deltas_become}
use Rattle.growth.specs.Rounds as turns
use Rattle.growth.specs.Rounds.{TurnEnd, TurnedOn}
use Rattle.growth.proofs.Turns.{round_at, inserted, TurnWay, answers, untried, all_full, breaks, moves}

-- ---- one change more

words_last : (l : List Change) (c : Change) (ws : List ℕ) → words_after_all (l ++ c ∷ []) ws ≡ words_after c (words_after_all l ws)
words_last [] c ws = refl
words_last (b ∷ l) c ws = words_last l c (words_after b ws)

deltas_last : (l : List Change) (c : Change) (ds : List ℕ) → deltas_after_all (l ++ c ∷ []) ds ≡ deltas_after c (deltas_after_all l ds)
deltas_last [] c ds = refl
deltas_last (b ∷ l) c ds = deltas_last l c (deltas_after b ds)

words_then : (cells : ℕ) (b : Became) (c : Change) (ws : List ℕ) → words_become cells (and_then b c) ws ≡ words_after c (words_become cells b ws)
words_then cells (stays l) c ws = words_last l c ws
words_then cells (cleared l) c ws = words_last l c (fresh_words cells)

deltas_then : (cells : ℕ) (b : Became) (c : Change) (ds : List ℕ) → deltas_become cells (and_then b c) ds ≡ deltas_after c (deltas_become cells b ds)
deltas_then cells (stays l) c ds = deltas_last l c ds
deltas_then cells (cleared l) c ds = deltas_last l c (fresh_deltas cells)

-- ---- the end of the call

abbrev pub Moves : TurnEnd → Type 0
Moves (turns.moved T) = Unit
Moves (turns.answered s) = ⊥

-- what such a round says of the call; nothing is said of a round that moved
abbrev pub turn_said : TurnEnd → Said
turn_said (turns.answered s) = s
turn_said (turns.moved T) = refused 6 []

-- the rules' outcome, from a round's end: the half in use and the spare one, which were W, D and SW, SD at the start of the call
pub record Ends (cells size : ℕ) (half : rule.Half) (W D SW SD : List ℕ) (x : TurnedOn) (g : GrowOutcome) : Type 0 where
  pub said : turn_said x.end ≡ g.said
  pub looked : x.looked ≡ g.looked
  pub counts : x.counts ≡ g.counts
  pub same_size : size ≡ g.size
  pub same_half : half ≡ g.half
  pub no_move : g.moves ≡ []
  pub words : x.words ≡ words_become cells g.used W
  pub deltas : x.deltas ≡ deltas_become cells g.used D
  pub spare_words : x.spare_words ≡ words_become cells g.spare SW
  pub spare_deltas : x.spare_deltas ≡ deltas_become cells g.spare SD

module _ (cells : ℕ) (hasher : Hasher) (h k v size live : ℕ) (ws ds sws sds : List ℕ) (left : ℕ) (half : rule.Half) (used spare : Became)
    (W D SW SD : List ℕ) (uw : ws ≡ words_become cells used W) (ud : ds ≡ deltas_become cells used D)
    (sw : sws ≡ words_become cells spare SW) (sd : sds ≡ deltas_become cells spare SD) where
  abbrev change : Change
  change = (inserted cells hasher h k v size live ws ds).change

  pub ends : (x : TurnedOn) (g : GrowOutcome) → TurnWay cells hasher h k v size live ws ds sws sds left (round_at size half live ws ds used spare) x g
      → (Moves x.end → ⊥) → Ends cells size half W D SW SD x g
  ends x g (answers e a b) n =
      rw (a, b)
      (record {
        said = refl;
        looked = refl;
        counts = refl;
        same_size = refl;
        same_half = refl;
        no_move = refl;
        words = ap (words_after change) uw ∙ sym (words_then cells used change W);
        deltas = ap (deltas_after change) ud ∙ sym (deltas_then cells used change D);
        spare_words = sw;
        spare_deltas = sd;
      })
  ends x g (untried a b) n =
      rw (a, b)
      (record {
        said = refl;
        looked = refl;
        counts = refl;
        same_size = refl;
        same_half = refl;
        no_move = refl;
        words = uw;
        deltas = ud;
        spare_words = sw;
        spare_deltas = sd;
      })
  ends x g (all_full a b) n =
      rw (a, b)
      (record {
        said = refl;
        looked = refl;
        counts = refl;
        same_size = refl;
        same_half = refl;
        no_move = refl;
        words = uw;
        deltas = ud;
        spare_words = refl;
        spare_deltas = refl;
      })
  ends x g (breaks a b) n =
      rw (a, b)
      (record {
        said = refl;
        looked = refl;
        counts = refl;
        same_size = refl;
        same_half = refl;
        no_move = refl;
        words = uw;
        deltas = ud;
        spare_words = refl;
        spare_deltas = refl;
      })
  ends x g (moves f T c fills m a b) n = absurd (n (rw a tt))
