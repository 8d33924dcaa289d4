-- What a call changes, by its answer.
use Rattle.std.specs.Prelude.{◌≢◌, ◌≡◌, ℕ, ◌%◌, ◌≤◌, ◌<◌, length}
use Rattle.rules.specs.Sizes.{window}
use Rattle.rules.specs.Cells.{Cells}
use Rattle.rules.specs.Walk.{met, tail, walk, on}
use Rattle.rules.specs.Answers.{Said, found, absent, new, replaced, revived, removed, refused, Link, unlinked, as_first, as_second, Change, nothing, store, fill}

module _ (S : ℕ) (cs : Cells) (h k : ℕ) where
  -- rule 4: the distance d goes into the home's first delta if no link was followed, else into the second delta of the tail t
  pub record Linked (t d : ℕ) (l : Link) : Type 0 where
    pub none_followed : length (walk S cs h k).seen ≡ 1 → l ≡ as_first (h % S) d
    pub some_followed : length (walk S cs h k).seen ≢ 1 → l ≡ as_second (t % S) d

  -- the first empty cell of the window past the tail is filled, and linked
  pub record FilledPast (v : ℕ) (c : Change) : Type 0 where
    pub home_taken : cs.hash (h % S) ≢ 0
    pub last : ℕ
    pub ends : (walk S cs h k).stop ≡ tail last
    pub distance : ℕ
    pub some : 1 ≤ distance
    pub most : distance ≤ window S
    pub empty : cs.hash (on last distance % S) ≡ 0
    pub first_such : (d : ℕ) → 1 ≤ d → d < distance → cs.hash (on last d % S) ≢ 0
    pub link : Link
    pub linked : Linked last distance link
    pub change : c ≡ fill (on last distance % S) h k v link

  -- an empty home is filled at once, with no link; else the first empty cell of the window is
  pub data Filled (v : ℕ) (c : Change) : Type 0 where
    at_home : cs.hash (h % S) ≡ 0 → c ≡ fill (h % S) h k v unlinked → Filled v c
    past_tail : FilledPast v c → Filled v c

  -- the value of the cell met was old, and is set to v
  pub record Stored (value : ℕ → ℕ) (old v : ℕ) (c : Change) : Type 0 where
    pub position : ℕ
    pub met_there : (walk S cs h k).stop ≡ met position
    pub was : old ≡ value (position % S)
    pub change : c ≡ store (position % S) v

  module _ (null : ℕ) (value : ℕ → ℕ) where
    -- what an insert of the value v changes; some answers it never gives
    abbrev pub InsertChanges : ℕ → Said → Change → Type 0
    InsertChanges v new c = Filled v c
    InsertChanges v (replaced old) c = Stored value old v c × (old ≢ null)
    InsertChanges v revived c = Stored value null v c
    InsertChanges v (refused n l) c = c ≡ nothing
    InsertChanges v (found x) c = ⊥
    InsertChanges v absent c = ⊥
    InsertChanges v (removed x) c = ⊥

    -- what a remove changes
    abbrev pub RemoveChanges : Said → Change → Type 0
    RemoveChanges (removed old) c = Stored value old null c × (old ≢ null)
    RemoveChanges absent c = c ≡ nothing
    RemoveChanges (refused n l) c = c ≡ nothing
    RemoveChanges new c = ⊥
    RemoveChanges (replaced x) c = ⊥
    RemoveChanges revived c = ⊥
    RemoveChanges (found x) c = ⊥
