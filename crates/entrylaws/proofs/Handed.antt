-- The entry that a call hands back with a value put under the key: its cell holds the key live, on any table. Assumes nothing.
use mathlib.Core.List.{[]}
use mathlib.Core.Logic.{◌≢◌}
use mathlib.Core.Path.{◌≡◌, refl, sym, ap, subst, ◌∙◌}
use Prim.Native.Nat.{ℕ, ◌%◌}
use Rattle.rules.specs.Cells.{Counts, Lent}
use Rattle.rules.specs.Answers.{Said, new, revived, refused, Change, store, fill, Link, Outcome, leave}
use Rattle.rules.specs.Entries.{occupied, Entry, Action, reading, keeping, replacing, inserting, offers, uncounted, use_entry, entry_after}
use Rattle.laws.specs.Ways.{Added, room, over, InsertWay}
use Rattle.laws.specs.Ways as inserted
use Rattle.laws.proofs.Ways.{insert_way}
use Rattle.laws.proofs.Stops.{met_holds}
use Rattle.sound.specs.State.{after}
use Rattle.sound.proofs.Walks.{holds_both}
use Rattle.sound.proofs.Filling.{changed_own}
use Rattle.sound.proofs.Keeping.{offered_passes, zero_passes}
use Rattle.entrylaws.specs.Uses.{HoldsLive, UseWay}
use Rattle.entrylaws.specs.Uses as ways
use Rattle.entrylaws.specs.Sound.{Puts, Unrefused}
use Rattle.entrylaws.proofs.Ways.{use_way}

-- the entry handed back after an outcome is Occupied at a cell that holds its hash and key live
pub record HandedLive (l : Lent) (e : Entry) (o : Outcome) : Type 0 where
  pub cell : ℕ
  pub at : (entry_after e o.change).place ≡ occupied cell
  pub there : HoldsLive (after l o) (entry_after e o.change) cell

module _ (l : Lent) (e : Entry) (v : ℕ) (nn : v ≢ l.params.null) where
  -- a value stored in a cell that holds the entry's hash and key
  stored_live : (i n : ℕ) (s : Said) (c : Counts) → l.cells.hash i ≡ e.hash → l.cells.key i ≡ e.key → l.cells.hash i ≢ 0
      → HandedLive l e (record { said = s; looked = n; counts = c; change = store i v })
  stored_live i n s c h k t =
      record {
        cell = i;
        at = refl;
        there = record { hash = h; key = k; taken = t; live = λ z. nn (sym (changed_own i v l.value) ∙ z) };
      }

  -- a cell filled with them
  filled_live : (i n h : ℕ) (s : Said) (c : Counts) (link : Link) → h ≡ e.hash → h ≢ 0
      → HandedLive l e (record { said = s; looked = n; counts = c; change = fill i h e.key v link })
  filled_live i n h s c link own some =
      record {
        cell = i;
        at = refl;
        there =
            record {
              hash = changed_own i h l.cells.hash ∙ own;
              key = changed_own i e.key l.cells.key;
              taken = λ z. some (sym (changed_own i h l.cells.hash) ∙ z);
              live = λ z. nn (sym (changed_own i v l.value) ∙ z);
            };
      }

  module _ (own : e.hash ≡ l.params.hash_of e.key) (some : l.params.hash_of e.key ≢ 0) where
    abbrev h : ℕ
    h = l.params.hash_of e.key

    added_live : (S n : ℕ) (c : Counts) (s : Said) (change : Change) (o : Outcome) → Added S c n s change o → Unrefused o.said
        → ((c : Counts) → HandedLive l e (uncounted (record { said = s; looked = n; counts = c; change = change })))
        → HandedLive l e (uncounted o)
    added_live S n c s change o (room x q) u f = rw q (f _)
    added_live S n c s change o (over x q) u f = absurd (u 5 [] (ap (λ (o : Outcome). o.said) q))

    inserted_live : (o : Outcome) → InsertWay l.params.S l.params.null l.cells l.value l.counts h e.key v o → Unrefused o.said
        → HandedLive l e (uncounted o)
    inserted_live o (inserted.homed a b) u = added_live _ _ _ _ _ o b u (λ c. filled_live _ 0 h new c _ (sym own) some)
    inserted_live o (inserted.replaces q a b d x) u =
        let k = holds_both l.cells (q % l.params.S) h e.key (met_holds _ _ _ _ q b) in
        rw x (stored_live _ 0 _ _ (k.0 ∙ sym own) k.1 (λ z. some (sym k.0 ∙ z)))
    inserted_live o (inserted.revives q a b d x) u =
        let k = holds_both l.cells (q % l.params.S) h e.key (met_holds _ _ _ _ q b) in
        added_live _ _ _ _ _ o x u (λ c. stored_live _ 0 revived c (k.0 ∙ sym own) k.1 (λ z. some (sym k.0 ∙ z)))
    inserted_live o (inserted.linked q d a b x y) u = added_live _ _ _ _ _ o y u (λ c. filled_live _ 0 h new c _ (sym own) some)
    inserted_live o (inserted.full q a b d x) u = absurd (u 4 _ (ap (λ (o : Outcome). o.said) x))
    inserted_live o (inserted.endless a b x) u = absurd (u 5 [] (ap (λ (o : Outcome). o.said) x))

puts_value : (null : ℕ) (a : Action) (v : ℕ) → Puts a v → offers null a ≡ 0 → v ≢ null
puts_value null (replacing x) v p o = offered_passes null v (rw p at o)
puts_value null (inserting x) v p o = offered_passes null v (rw p at o)
puts_value null reading v p o = elim p [ ]
puts_value null Rattle.rules.specs.Entries.removing v p o = elim p [ ]
puts_value null (keeping _) v p o = elim p [ ]

-- after a use that put a value under the key, the entry handed back is not out of date
pub handed_live : (l : Lent) (e : Entry) (a : Action) (v : ℕ) → Puts a v → Unrefused (use_entry l e a).said → HandedLive l e (use_entry l e a)
handed_live l e a v p = go _ (use_way l e a)
  where
    no : (o : Outcome) (n : ℕ) → o ≡ leave (refused n []) 0 l.counts → Unrefused o.said → HandedLive l e o
    no o n q u = absurd (u n [] (ap (λ (o : Outcome). o.said) q))

    reads_not : (b : Action) → ways.Reads b → Puts b v → ⊥
    reads_not reading r x = x
    reads_not (keeping w) r x = x
    reads_not Rattle.rules.specs.Entries.removing r x = elim r [ ]
    reads_not (replacing _) r x = elim r [ ]
    reads_not (inserting _) r x = elim r [ ]

    same : (b : Action) (w : ℕ) → Puts b v → b ≡ replacing w → w ≡ v
    same b w x q = subst (λ (c : Action). Puts c v) q x

    same_new : (b : Action) (w : ℕ) → Puts b v → b ≡ inserting w → w ≡ v
    same_new b w x q = subst (λ (c : Action). Puts c v) q x

    go : (o : Outcome) → UseWay l e a o → Unrefused o.said → HandedLive l e o
    go o (ways.by1 x q) u = no o 1 q u
    go o (ways.by3 x f q) u = no o 3 q u
    go o (ways.by2 x f y q) u = no o 2 q u
    go o (ways.by7 x y q) u = no o 7 q u
    go o (ways.reads i x r q) u = absurd (reads_not a r p)
    go o (ways.replaces i w x r q) u =
        let z = same a w p r in
        rw (q, z) (stored_live l e v (puts_value _ a v p x.past.offer) i 0 _ _ x.there.hash x.there.key x.there.taken)
    go o (ways.removes i x r m q) u = absurd (subst (λ (b : Action). Puts b v) r p)
    go o (ways.under i x r m q) u = no o 5 q u
    go o (ways.inserts w x r q) u =
        let z = same_new a w p r in
        let f = subst (λ (o : Outcome). Unrefused o.said) q u in
        rw (q, z) (inserted_live l e v (puts_value _ a v p x.past.offer) x.own (zero_passes _ x.past.hash) _ (insert_way _ _ _ _ _ _ _ v) (rw z at f))
