-- `offset_table::listed::is_maker` meets its contract. Assumes nothing.
use Rattle.std.proofs.Common.{◌≡◌, ◌∙◌, ℕ, sym, ap, rules, arith}
use lib.Dec.{eqb}
use lib.ListN.{get_or}
use borrow.Author.Tests.{tests, eq-eqb, ne_eqb}
use Rattle.std.specs.List.{list_all, enumerate_from}
use Rattle.std.proofs.lemmas.Iterator.{YieldsList-from_slice}
use Rattle.std.proofs.lemmas.Iterator.Consumers.{YieldsList-from_enumerate}
use Rattle.std.proofs.lemmas.Iterator.Search.{all_from_yields_List}
use Rattle.radix.specs.Radix.{every}
use Rattle.layout.specs.Layout.{padded_of, offset_of}
use Rattle.offset_table.specs.Makes.{is_maker}
use Rattle.offset_table.proofs.Makers.{size-differs}
use Rattle.offset_table.proofs.Walks.{all-enumerated}
use Rattle.offset_table.proofs.listed.is_maker.Goals as goal

pub returns-then-padded_cells-padded : goal.returns-then-padded_cells-padded
unfolding is_maker
returns-then-padded_cells-padded c =
    let a = c.args in
    let h : c.all.result ≡ list_all (λ (x : ℕ × ℕ). eqb x.1 (offset_of a.shape a.layout x.0)) (enumerate_from 0 a.table.now) =
    all_from_yields_List (λ (x : ℕ × ℕ). eqb x.1 (offset_of a.shape a.layout x.0)) _ _ _ c.all.ensures.ran
    (YieldsList-from_enumerate {v = λ x. x.now} (YieldsList-from_slice a.table.now cc) cc) (λ x b q k. search (rules, tests))
    in
    let same : padded_of a.shape a.layout ≡ a.padded = omega arith in
    rw (eq-eqb _ _ same)
    (h ∙ all-enumerated (λ (k x : ℕ). eqb x (offset_of a.shape a.layout k)) 0 a.table.now ∙ ap (every (λ (k : ℕ). eqb (get_or a.table.now k 0) (offset_of a.shape a.layout k))) c.requires.1)

pub returns-else-padded_cells-padded : goal.returns-else-padded_cells-padded
returns-else-padded_cells-padded c =
    ne_eqb _ _ c.if-padded_cells-padded.false ∙ sym (size-differs _ _ _ _ (λ q. c.if-padded_cells-padded.false (c.padded_cells.ensures ∙ q)))
