-- The invariant of `rules::applying::fitting`: trying from g on finds what trying all numbers finds.
use Rattle.std.proofs.Common.{◌≡◌, List, ℕ, ◌+◌, ◌*◌, ◌≤◌, ℤ, length, drop}
use Rattle.expression.specs.Expression.{Kind, Range}
use Rattle.folding.specs.Sum.{Sum, term_count, sum_size}
use Rattle.folding.specs.Fold.{common_divisors, divisors_tried}
use Rattle.words.specs.Words.{sum_words}
use Rattle.rules.specs.Rules.{fitting_of}
use Rattle.rules.proofs.Search.{from_divisor}
use Rattle.rules.proofs.applying.fitting.Given as goal

-- trying from g on finds what trying all numbers finds
abbrev pub Left : List ℤ → ℕ → ℕ → ℕ → ℕ → ℕ → Type 0
Left w p n c room g =
    (β : Kind → ℕ → Range) (t : Sum) (x : List ℤ) → n ≡ term_count t → drop p w ≡ sum_words β t x → 7 * sum_size t + 1 ≤ room
    → fitting_of β t (from_divisor g (common_divisors c t)) ≡ fitting_of β t (divisors_tried c t)

abbrev pub invariant-loop-g : goal.invariant-loop-g
invariant-loop-g l = (1 ≤ l.g) × (l.g ≤ l.size) × (length l.out ≡ length l.initial.out) × Left l.w l.p l.n l.size (length l.initial.out) l.g

abbrev pub decreases-loop-g : goal.decreases-loop-g
decreases-loop-g l = l.g
