-- `util::wrapping_mul` meets its contract. Assumes nothing.
use borrow.Author.Rules.{rules}
use Rattle.util.proofs.Digits.{digits, mask, low_word}
use Rattle.util.proofs.wrapping_mul.Goals as goal

pub overflow_mul-low : goal.overflow_mul-low
overflow_mul-low c = search (rules, digits)

pub overflow_mul-crossed : goal.overflow_mul-crossed
overflow_mul-crossed c = search (rules, digits)

pub overflow_add-crossed : goal.overflow_add-crossed
overflow_add-crossed c = search (rules, digits)

pub overflow_mul-result : goal.overflow_mul-result
overflow_mul-result c = search (rules, digits)

pub overflow_add-result : goal.overflow_add-result
overflow_add-result c = search (rules, digits)

pub returns : goal.returns
returns c = search (mask, low_word)
