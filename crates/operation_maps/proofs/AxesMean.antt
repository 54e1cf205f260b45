-- One dimension kept, turned round, cut or shifted: both ways give the same pairs. Assumes nothing.
use mathlib.Core.Path.{◌≡◌, refl, sym, ap, ◌∙◌, subst}
use mathlib.Core.Logic.{⊎_elim}
use mathlib.Core.List.{List}
use Prim.Native.Nat.{ℕ, suc, ◌+◌, ◌-◌, ◌*◌, ◌/◌, ◌%◌, ◌<◌, ◌≤◌}
use native.Mathlib.Nat.{mul-div_left, mul-mod_left, div-add-mod', mul-le-mul_right, le_of_mul-le-mul_right, mul_comm, div-lt_iff_lt-mul}
use native.Mathlib.Omega.{arith}
use lib.IntN.{ℤ, pos, negsuc, neg_ℤ, nat_abs, ◌+ℤ◌, ◌*ℤ◌}
use Rattle.integer.specs.Floor.{floor_div, floor_mod}
use Rattle.integer.proofs.Linear.{same, add_parts, diff-parts, up-mul, dn-mul, ≤-parts}
use Rattle.radix.proofs.Lists.{le-or-lt}
use Rattle.expression.specs.Expression.{d, Range, span, In, eval, op_of}
use Rattle.folding.specs.Map.{Holds}
use Rattle.operation_maps.specs.declared.Axis.{Axis}
use Rattle.operation_maps.specs.declared.Axis.TheVariants.{Keep, Flip, Cut, Shift}
use Rattle.operation_maps.specs.Points.{Means}
use Rattle.operation_maps.specs.Axes.{out_side, in_side, Meets, Each, axes_pairs, Sound, AllSound, axes_out, axes_in, taken, none, more}
use Rattle.operation_maps.proofs.AxesNamed.{in_whole, whole_in, Local, sides-mean}

-- ---- numbers

minus : (a b : ℕ) → b ≤ a → pos a +ℤ neg_ℤ (pos b) ≡ pos (a - b)
minus a b h = same _ _ (omega (arith, diff-parts (pos a) (pos b)))

turned : (n a : ℕ) → a ≤ n → negsuc 0 *ℤ pos a +ℤ pos n ≡ pos (n - a)
turned n a h = same _ _ (omega (arith, add_parts (negsuc 0 *ℤ pos a) (pos n), up-mul (negsuc 0) (pos a), dn-mul (negsuc 0) (pos a)))

-- ---- the bounds of a cut, input to output: both ends are taken

pub cut-ends : (start limit stride lo hi : ℕ) → start < limit → (in_side (Cut start limit stride)).bound ≡ span (pos lo) (pos hi)
    → Meets (Cut start limit stride) 0 lo × Meets (Cut start limit stride) (taken start limit stride - 1) hi
cut-ends start limit stride lo hi h e =
    let a : lo ≡ start = sym (ap (λ (r : Range). nat_abs r.lo) e) in
    let b : hi ≡ start + (taken start limit stride - 1) * stride = sym (ap (λ (r : Range). nat_abs r.hi) e) in
    let n = (limit - 1 - start) / stride in
    let c : (taken start limit stride - 1) * stride ≡ n * stride = ap (λ (m : ℕ). m * stride) (omega arith) in
    let f = div-add-mod' (limit - 1 - start) stride in
    ((omega (arith, a), omega (arith, a, h)), (omega (arith, b), omega (arith, b, c, f, h)))

-- ---- a dimension kept or turned round: both ways alike

keep_local : (n : ℕ) → 0 < n → (R : ℕ → ℕ → Type 0) → ((a : ℕ) → a < n → R a a) → ((a b : ℕ) → R a b → (a < n) × (b ≡ a)) → Local (out_side (Keep n)) R
unfolding eval Holds
keep_local n g R make split =
    record {
      to = λ ρ k i h.
          let w = in_whole (ρ d k) 0 (n - 1) i in
          record { a = w.n; b = w.n; a-is = w.is; b-is = w.is; related = make w.n (omega (arith, w.high)) };
      from = λ ρ k a b r e.
          let u = split a b r in
          record { inside = whole_in a 0 (n - 1) (omega arith) (omega (arith, u.0)); holds = tt; b-is = e ∙ ap pos (sym u.1) };
    }

flip-local : (n : ℕ) → 0 < n → (R : ℕ → ℕ → Type 0) → ((a b : ℕ) → a + b + 1 ≡ n → R a b) → ((a b : ℕ) → R a b → a + b + 1 ≡ n) → Local (out_side (Flip n)) R
unfolding eval Holds
flip-local n g R make split =
    record {
      to = λ ρ k i h.
          let w = in_whole (ρ d k) 0 (n - 1) i in
          record {
            a = w.n;
            b = n - 1 - w.n;
            a-is = w.is;
            b-is = ap (λ (z : ℤ). negsuc 0 *ℤ z +ℤ pos (n - 1)) w.is ∙ turned (n - 1) w.n w.high;
            related = make w.n (n - 1 - w.n) (omega (arith, w.high));
          };
      from = λ ρ k a b r e.
          let u = split a b r in
          record {
            inside = whole_in a 0 (n - 1) (omega arith) (omega (arith, u));
            holds = tt;
            b-is = ap (λ (z : ℤ). negsuc 0 *ℤ z +ℤ pos (n - 1)) e ∙ turned (n - 1) a (omega (arith, u)) ∙ ap pos (omega (arith, u));
          };
    }

-- ---- a dimension cut

module _ (start limit stride : ℕ) (hs : 0 < stride) (hl : start < limit) where
  abbrev count : ℕ
  count = taken start limit stride

  -- the places below the count are those that lie below the limit
  below-limit : (o : ℕ) → o < count → o * stride + start < limit
  below-limit o h =
      ⊎_elim (λ h. h)
      (λ (g : limit < suc (o * stride + start)). let w : limit - 1 - start < o * stride = omega arith in absurd (omega (arith, (div-lt_iff_lt-mul hs).1 w)))
      (le-or-lt (suc (o * stride + start)) limit)

  below-count : (o : ℕ) → o * stride + start < limit → o < count
  below-count o h =
      ⊎_elim (λ h. h)
      (λ (g : count < suc o). let w : limit - 1 - start < o * stride = (div-lt_iff_lt-mul hs).0 (omega arith) in absurd (omega arith))
      (le-or-lt (suc o) count)

  cut_out : Local (out_side (Cut start limit stride)) (Meets (Cut start limit stride))
  unfolding eval Holds
  cut_out =
      record {
        to = λ ρ k i h.
            let w = in_whole (ρ d k) 0 (count - 1) i in
            record {
              a = w.n;
              b = w.n * stride + start;
              a-is = w.is;
              b-is = ap (λ (z : ℤ). pos stride *ℤ z +ℤ pos start) w.is ∙ ap (λ (m : ℕ). pos (m + start)) (mul_comm stride w.n);
              related = (refl, below-limit w.n (omega (arith, w.high)));
            };
        from = λ ρ k a b r e.
            let l = below-count a (omega (arith, r.0, r.1)) in
            record {
              inside = whole_in a 0 (count - 1) (omega arith) (omega (arith, l));
              holds = tt;
              b-is = ap (λ (z : ℤ). pos stride *ℤ z +ℤ pos start) e ∙ ap (λ (m : ℕ). pos (m + start)) (mul_comm stride a) ∙ ap pos (sym r.0);
            };
      }

  -- what lies stride apart from start on, back and forth
  reached : (o : ℕ) → o < count → (start ≤ o * stride + start) × ((o * stride + start ≤ start + (count - 1) * stride) × (((o * stride + start - start) % stride ≡ 0) × ((o * stride + start - start) / stride ≡ o)))
  reached o h =
      let e : o * stride + start - start ≡ o * stride = omega arith in
      let k : o ≤ count - 1 = omega arith in
      (omega arith, (omega (arith, mul-le-mul_right stride k), (ap (λ (m : ℕ). m % stride) e ∙ mul-mod_left o stride, ap (λ (m : ℕ). m / stride) e ∙ mul-div_left o hs)))

  found : (i : ℕ) → start ≤ i → i ≤ start + (count - 1) * stride → (i - start) % stride ≡ 0 → ((i - start) / stride < count) × (i ≡ (i - start) / stride * stride + start)
  found i h l m =
      let e = div-add-mod' (i - start) stride in
      let k : (i - start) / stride * stride ≤ (count - 1) * stride = omega arith in
      (omega (arith, le_of_mul-le-mul_right k hs), omega arith)

  divided : (i : ℕ) → start ≤ i → floor_div (pos i +ℤ neg_ℤ (pos start)) stride ≡ pos ((i - start) / stride)
  divided i h = ap (λ (z : ℤ). floor_div z stride) (minus i start h)

  left_over : (i : ℕ) → start ≤ i → floor_mod (pos i +ℤ neg_ℤ (pos start)) stride ≡ pos ((i - start) % stride)
  left_over i h = ap (λ (z : ℤ). floor_mod z stride) (minus i start h)

  rest-zero : (z : ℤ) (i : ℕ) → z ≡ pos i → start ≤ i → In (floor_mod (z +ℤ neg_ℤ (pos start)) stride) (span (pos 0) (pos 0)) → (i - start) % stride ≡ 0
  rest-zero z i e h t =
      let u = subst (λ (x : ℤ). In x (span (pos 0) (pos 0))) (ap (λ (x : ℤ). floor_mod (x +ℤ neg_ℤ (pos start)) stride) e ∙ left_over i h) t in
      omega (arith, ≤-parts (pos ((i - start) % stride)) (pos 0) u.high)

  zero_rest : (z : ℤ) (i : ℕ) → z ≡ pos i → start ≤ i → (i - start) % stride ≡ 0 → In (floor_mod (z +ℤ neg_ℤ (pos start)) stride) (span (pos 0) (pos 0))
  zero_rest z i e h t =
      subst (λ (x : ℤ). In x (span (pos 0) (pos 0))) (sym (ap (λ (x : ℤ). floor_mod (x +ℤ neg_ℤ (pos start)) stride) e ∙ left_over i h ∙ ap pos t)) (whole_in 0 0 0 (omega arith) (omega arith))

  cut_in : Local (in_side (Cut start limit stride)) (λ (i o : ℕ). Meets (Cut start limit stride) o i)
  unfolding eval Holds op_of
  cut_in =
      record {
        to = λ ρ k i h.
            let w = in_whole (ρ d k) start (start + (count - 1) * stride) i in
            record {
              a = w.n;
              b = (w.n - start) / stride;
              a-is = w.is;
              b-is = ap (λ (z : ℤ). floor_div (z +ℤ neg_ℤ (pos start)) stride) w.is ∙ divided w.n w.low;
              related =
                  let f = found w.n w.low w.high (rest-zero (ρ d k) w.n w.is w.low h.0) in
                  (f.1, omega (arith, f.1, below-limit ((w.n - start) / stride) f.0));
            };
        from = λ ρ k i o r e.
            let l = below-count o (omega (arith, r.0, r.1)) in
            let t = reached o l in
            let low : start ≤ i = omega (arith, r.0) in
            record {
              inside = whole_in i start (start + (count - 1) * stride) low (omega (arith, r.0, t.1.0));
              holds = (zero_rest (ρ d k) i e low (ap (λ (m : ℕ). (m - start) % stride) r.0 ∙ t.1.1.0), tt);
              b-is =
                  ap (λ (z : ℤ). floor_div (z +ℤ neg_ℤ (pos start)) stride) e
                  ∙ divided i low
                  ∙ ap (λ (m : ℕ). pos ((m - start) / stride)) r.0
                  ∙ ap pos t.1.1.1;
            };
      }

-- ---- a dimension shifted

module _ (by n : ℕ) (g : 0 < n) where
  shift-out : Local (out_side (Shift by n)) (Meets (Shift by n))
  unfolding eval Holds
  shift-out =
      record {
        to = λ ρ k i h.
            let w = in_whole (ρ d k) by (by + (n - 1)) i in
            record {
              a = w.n;
              b = w.n - by;
              a-is = w.is;
              b-is = ap (λ (z : ℤ). z +ℤ neg_ℤ (pos by)) w.is ∙ minus w.n by w.low;
              related = (omega (arith, w.low, w.high), omega (arith, w.low));
            };
        from = λ ρ k a b r e.
            record {
              inside = whole_in a by (by + (n - 1)) (omega (arith, r.1)) (omega (arith, r.0, r.1));
              holds = tt;
              b-is = ap (λ (z : ℤ). z +ℤ neg_ℤ (pos by)) e ∙ minus a by (omega (arith, r.1)) ∙ ap pos (omega (arith, r.1));
            };
      }

  shift_in : Local (in_side (Shift by n)) (λ (i o : ℕ). Meets (Shift by n) o i)
  unfolding eval Holds
  shift_in =
      record {
        to = λ ρ k i h.
            let w = in_whole (ρ d k) 0 (n - 1) i in
            record {
              a = w.n;
              b = w.n + by;
              a-is = w.is;
              b-is = ap (λ (z : ℤ). z +ℤ pos by) w.is;
              related = (omega (arith, w.high), refl);
            };
        from = λ ρ k a b r e.
            record {
              inside = whole_in a 0 (n - 1) (omega arith) (omega (arith, r.0));
              holds = tt;
              b-is = ap (λ (z : ℤ). z +ℤ pos by) e ∙ ap pos (sym r.1);
            };
      }

-- ---- every dimension, and both maps

out-local : (a : Axis) → Sound a → Local (out_side a) (Meets a)
out-local (Keep n) g = keep_local n g (Meets (Keep n)) (λ a h. (h, refl)) (λ a b r. (omega (arith, r.0, r.1), sym r.1))
out-local (Flip n) g = flip-local n g (Meets (Flip n)) (λ a b e. e) (λ a b r. r)
out-local (Cut start limit stride) g = cut_out start limit stride g.0 g.1
out-local (Shift by n) g = shift-out by n g

in-local : (a : Axis) → Sound a → Local (in_side a) (λ (i o : ℕ). Meets a o i)
in-local (Keep n) g = keep_local n g (λ (i o : ℕ). Meets (Keep n) o i) (λ a h. (h, refl)) (λ a b r. r)
in-local (Flip n) g = flip-local n g (λ (i o : ℕ). Meets (Flip n) o i) (λ a b e. omega (arith, e)) (λ a b r. omega (arith, r))
in-local (Cut start limit stride) g = cut_in start limit stride g.0 g.1
in-local (Shift by n) g = shift_in by n g

turn : (R : Axis → ℕ → ℕ → Type 0) {axs : List Axis} {xs ys : List ℕ} → Each R axs xs ys → Each (λ (a : Axis) (i o : ℕ). R a o i) axs ys xs
turn R none = none
turn R (more r e) = more r (turn R e)

-- The output-to-input map names exactly the pairs of the operation.
pub axes-out : (axs : List Axis) → AllSound axs → Means (axes_out axs) (axes_pairs axs)
unfolding axes_out
axes-out axs g = sides-mean out_side Meets out-local axs g

-- So does the input-to-output map.
pub axes-in : (axs : List Axis) → AllSound axs → Means (axes_in axs) (λ (i o : List ℕ). axes_pairs axs o i)
unfolding axes_in
axes-in axs g x y =
    let m = sides-mean in_side (λ (a : Axis) (i o : ℕ). Meets a o i) in-local axs g x y in (
      λ h. let p = m.0 h in record { from = p.from; to = p.to; from_is = p.from_is; to_is = p.to_is; related = turn (λ (a : Axis) (i o : ℕ). Meets a o i) p.related },
      λ p. m.1 (record { from = p.from; to = p.to; from_is = p.from_is; to_is = p.to_is; related = turn Meets p.related }),
    )
