-- What the maps of the operations are, one theorem under each sentence. Assumes nothing.
use Rattle.std.specs.Prelude.{Ok, Err}
use mathlib.Core.Path.{◌≡◌, refl, sym, ap, ap₂, ◌∙◌, subst}
use mathlib.Core.Logic.{◌↔◌}
use mathlib.Core.Bool.{true, false}
use mathlib.Core.List.{List, [], ◌∷◌, ◌++◌}
use Prim.Native.Nat.{ℕ, ◌-◌, ◌<◌}
use lib.IntN.{ℤ, pos}
use lib.ListN.{get_or}
use Rattle.refusal.specs.Number.{Answer, done, refusal, answered, verdict_answer}
use Rattle.refusal.specs.Judge.{Rule, judge}
use Rattle.refusal.specs.declared.Refusal.{Refusal}
use Rattle.refusal.specs.declared.Refusal.TheVariants.{Attribute, Repeat}
use Rattle.refusal.specs.Judge.{Verdict}
use Rattle.refusal.proofs.Judged.{after-done, before-done}
use Rattle.shape.specs.Shape.{sizes_of}
use Rattle.shape.specs.Dimensions.{free, earlier_place, later_place}
use Rattle.shape.specs.declared.Shape.{Shape}
use Rattle.expression.specs.Expression.{span}
use Rattle.indexing.specs.Answers.{no_map, map_by}
use Rattle.indexing.specs.declared.IndexingMap.{IndexingMap}
use Rattle.indexing.proofs.Answered.{map-done, map-refused, map-number-zero}
use Rattle.fold.specs.FoldMap.{fold_rules, folded_map}
use Rattle.map_builder.specs.Raw.{Raw, encoded, Fits}
use Rattle.operation_maps.specs.declared.Way.{Way}
use Rattle.operation_maps.specs.declared.Way.TheVariants.{OutputToInput, InputToOutput}
use Rattle.operation_maps.specs.declared.Axis.TheVariants.{Cut}
use Rattle.operation_maps.specs.Lists.{is_listed, others}
use Rattle.operation_maps.specs.Axes.{taken, in_side, Meets}
use Rattle.operation_maps.specs.Selection.{spread_map}
use Rattle.operation_maps.specs.Points.{Sends, Points, Means}
use Rattle.operation_maps.specs.Operation.{Operation, rank_of, list_rules, operation_rules, output_to_input, input_to_output, Pairs, folded_answer, output_to_input_answer, input_to_output_answer, raw_of, operation_answer}
use Rattle.operation_maps.specs.Numbers.{rule_number}
use Rattle.operation_maps.specs.Trimmed.{trimmed}
use Rattle.operation_maps.proofs.Handed.{encoded-names, folded-names}
use Rattle.operation_maps.proofs.AxesMean.{cut-ends}
use Rattle.operation_maps.proofs.Meaning.{other-first, right}
use Rattle.operation_maps.proofs.SelectionNamed.{others_same}
use Rattle.operation_maps.proofs.Numbered.{rule-number}
use Rattle.operation_maps.proofs.NeverRefused.{rules-alone}
use Rattle.operation_maps.proofs.Unread.{rules-same, out-same, in-same}

-- ---- the answer

either_way : (way : Way) (op : Operation) → operation_answer way op ≡ folded_answer (operation_rules op) (encoded (raw_of way op))
unfolding output_to_input_answer input_to_output_answer
either_way OutputToInput op = refl
either_way InputToOutput op = refl

-- the operation's own rules decide
by-rules : (way : Way) (op : Operation) → operation_answer way op ≡ map_by (operation_rules op) (folded_map (encoded (raw_of way op)))
by-rules way op = either_way way op ∙ ap (λ (v : Verdict). answered (no_map ∷ []) v (folded_map (encoded (raw_of way op)) ∷ [])) (rules-alone way op)

-- An operation is refused as its own rules say, in their order: 1 of a shape given, 2 of an attribute, 2 of a repeat, 1 of the result's
-- shape; and in no other case.
pub operation-number : (way : Way) (op : Operation) → (operation_answer way op).number ≡ rule_number op
operation-number way op = ap (λ (a : Answer IndexingMap). a.number) (by-rules way op) ∙ same (judge (operation_rules op)) ∙ rule-number op
  where
    same : (v : Verdict) → (answered (no_map ∷ []) v (folded_map (encoded (raw_of way op)) ∷ [])).number ≡ (verdict_answer v).number
    same (Ok tt) = refl
    same (Err r) = refl

-- An operation whose rules are kept is never refused with 7 or 8: it answers its map, folded.
pub never-refused : (way : Way) (op : Operation) → judge (operation_rules op) ≡ Ok tt → operation_answer way op ≡ done (folded_map (encoded (raw_of way op)) ∷ [])
never-refused way op e = by-rules way op ∙ map-done (folded_map (encoded (raw_of way op))) (operation_rules op) e

-- The number is 0 exactly where the operation's rules are kept.
pub done-is : (way : Way) (op : Operation) → ((operation_answer way op).number ≡ 0) ↔ (judge (operation_rules op) ≡ Ok tt)
done-is way op = rw (by-rules way op) (map-number-zero (folded_map (encoded (raw_of way op))) (operation_rules op))

-- An operation that breaks a rule answers the refusal of the first that it breaks, and a map of zeros.
pub refused-zeros : (way : Way) (op : Operation) (r : Refusal) → judge (operation_rules op) ≡ Err r → operation_answer way op ≡ refusal (no_map ∷ []) r
refused-zeros way op r e = by-rules way op ∙ map-refused (folded_map (encoded (raw_of way op))) (operation_rules op) r e

-- Every other cause of number 2 is judged before a repeat, and carries zeros; a repeat carries its two places.
pub repeat-last : (l : List ℕ)
    → (judge (list_rules true false l) ≡ Err Attribute)
    × (free l ≡ false → judge (list_rules true true l) ≡ Err (Repeat (earlier_place l) (later_place l)))
repeat-last l = (other-first l, λ e. rw e)

-- What shapes hold past their ranks, and operands past their count, alters nothing in the answer.
pub past-counts : (way : Way) (p q : Operation) → trimmed p ≡ trimmed q → operation_answer way p ≡ operation_answer way q
unfolding output_to_input_answer input_to_output_answer
past-counts way p q e = sym (same way p) ∙ ap (operation_answer way) e ∙ same way q
  where
    same : (w : Way) (op : Operation) → operation_answer w (trimmed op) ≡ operation_answer w op
    same OutputToInput op = ap₂ (λ (rules : List Rule) (m : Raw). folded_answer rules (encoded m)) (rules-same op) (out-same op)
    same InputToOutput op = ap₂ (λ (rules : List Rule) (m : Raw). folded_answer rules (encoded m)) (rules-same op) (in-same op)

-- ---- a map that is handed out

-- the rules are kept, and it is the folded map
record Given (rules : List Rule) (m h : IndexingMap) : Type 0 where
  kept : judge rules ≡ Ok tt
  folds : judge (fold_rules m) ≡ Ok tt
  is : h ≡ folded_map m

given : (rules : List Rule) (m h : IndexingMap) → folded_answer rules m ≡ done (h ∷ []) → Given rules m h
given rules m h e =
    let q = (map-number-zero (folded_map m) (rules ++ fold_rules m)).0 (ap (λ (a : Answer IndexingMap). a.number) e) in
    let k = before-done rules (fold_rules m) q in
    record {
      kept = k;
      folds = sym (after-done rules (fold_rules m) k) ∙ q;
      is = ap (λ (a : Answer IndexingMap). get_or a.values 0 no_map) (sym e ∙ map-done (folded_map m) (rules ++ fold_rules m) q);
    }

-- its pairs
handed : (m : Raw) (R : List ℕ → List ℕ → Type 0) (h : IndexingMap) → Means m R → Fits m → judge (fold_rules (encoded m)) ≡ Ok tt → h ≡ folded_map (encoded m)
    → (x y : List ℤ) → Sends h x y ↔ Points R x y
handed m R h means fits folds is x y = (
  λ p. (means x y).0 ((encoded-names m fits x y).1 ((folded-names (encoded m) folds x y).1 (subst (λ (n : IndexingMap). Sends n x y) is p))),
  λ p. subst (λ (n : IndexingMap). Sends n x y) (sym is) ((folded-names (encoded m) folds x y).0 ((encoded-names m fits x y).0 ((means x y).1 p))),
)

-- The output-to-input map that is handed out sends the point x to the point y exactly where they are a pair of the operation.
pub output-to-input : (op : Operation) (h : IndexingMap) → output_to_input_answer op ≡ done (h ∷ []) → (x y : List ℤ) → Sends h x y ↔ Points (Pairs op) x y
unfolding output_to_input_answer
output-to-input op h e =
    let g = given (operation_rules op) (encoded (output_to_input op)) h e in
    let r = right op g.kept in
    handed (output_to_input op) (Pairs op) h r.out r.out-fits g.folds g.is

-- The input-to-output map that is handed out sends y to x exactly where x and y are a pair of the operation.
pub input-to-output : (op : Operation) (h : IndexingMap) → input_to_output_answer op ≡ done (h ∷ [])
    → (y x : List ℤ) → Sends h y x ↔ Points (λ (i o : List ℕ). Pairs op o i) y x
unfolding input_to_output_answer
input-to-output op h e =
    let g = given (operation_rules op) (encoded (input_to_output op)) h e in
    let r = right op g.kept in
    handed (input_to_output op) (λ (i o : List ℕ). Pairs op o i) h r.inn r.in-fits g.folds g.is

turned : (R : List ℕ → List ℕ → Type 0) (x y : List ℤ) → Points R x y → Points (λ (i o : List ℕ). R o i) y x
turned R x y p = record { from = p.to; to = p.from; from_is = p.to_is; to_is = p.from_is; related = p.related }

-- The two maps handed out name the same pairs: the output-to-input map sends o to i exactly where the input-to-output map sends i to o.
pub same-pairs : (op : Operation) (f g : IndexingMap) → output_to_input_answer op ≡ done (f ∷ []) → input_to_output_answer op ≡ done (g ∷ [])
    → (o i : List ℤ) → Sends f o i ↔ Sends g i o
same-pairs op f g a b o i = (
  λ p. (input-to-output op g b i o).1 (turned (Pairs op) o i ((output-to-input op f a o i).0 p)),
  λ p. (output-to-input op f a o i).1 (turned (λ (i o : List ℕ). Pairs op o i) i o ((input-to-output op g b i o).0 p)),
)

-- ---- the order of range variables, and the bounds of a slice

-- Range variables stand in the order of the dimensions that they run over, whatever the order of the list.
pub reduce-order : (x : Shape) (l k : List ℕ) → ((j : ℕ) → is_listed l j ≡ is_listed k j) → output_to_input (Operation.reduce x l) ≡ output_to_input (Operation.reduce x k)
reduce-order x l k h = ap (λ (o : List ℕ). spread_map o (sizes_of x)) (left (rank_of x))
  where
    left : (n : ℕ) → others l n ≡ others k n
    left n = others_same l k h n

-- Back from a slice, d runs from start to the last one taken: both ends are taken.
pub slice-ends : (start limit stride lo hi : ℕ) → start < limit → (in_side (Cut start limit stride)).bound ≡ span (pos lo) (pos hi)
    → Meets (Cut start limit stride) 0 lo × Meets (Cut start limit stride) (taken start limit stride - 1) hi
slice-ends start limit stride lo hi h e = cut-ends start limit stride lo hi h e
