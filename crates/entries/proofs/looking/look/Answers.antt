-- `entries::looking::look` meets its contract. Assumes nothing.
use Rattle.std.proofs.Common.{sym, ap, ◌∙◌}
use Rattle.entries.specs.Workers.{lost, gone}
use Rattle.entries.specs.Answers.{place_of}
use Rattle.entries.proofs.looking.look.Goals as goal

pub returns-then-not-holds_at : goal.returns-then-not-holds_at
returns-then-not-holds_at c =
    (λ z. c.if-hash-eq0.false (c.hash_of-hash.ensures ∙ z), lost _ (ap place_of c.in-Occupied.is) (rw c.if-entry-hash.false (sym c.holds_at.ensures ∙ c.if-not-holds_at.true)))

pub returns-then-value : goal.returns-then-value
returns-then-value c =
    (λ z. c.if-hash-eq0.false (c.hash_of-hash.ensures ∙ z), gone _ (ap place_of c.in-Occupied.is) (sym c.value_at-value.ensures ∙ c.if-value.true))
