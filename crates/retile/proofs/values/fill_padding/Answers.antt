-- `retile::values::fill_padding` meets its contract. Assumes nothing.
use Rattle.std.proofs.Common.{◌≡◌, ◌≤◌, ◌<◌, ◌+◌, ◌-◌, ◌∙◌, ℕ, length, length-take, length-drop, drop, replicate, refl, ap, rules, arith}
use Rattle.retile.proofs.Filling.{stretch-mid, stretch-right, stretch-fills}
use Rattle.retile.proofs.values.fill_padding.Goals as goal

pub returns : goal.returns
returns c =
    let i = c.args.i in
    let n = c.min.result in
    let z : i + n - i ≡ n = omega arith in
    let h : i + n ≤ length c.args.values.now = omega arith in
    let g : i + n ≤ length c.args.filled.now = omega arith in
    let v : c.fill.new.self ≡ replicate n 0 =
    c.fill.ensures.after (λ y k. search rules)
    ∙ ap (λ (m : ℕ). replicate m 0) (omega (arith, length-take (i + n - i) (drop i c.args.values.now), length-drop i c.args.values.now)) in
    let w : c.fill-2.new.self ≡ replicate n 1 =
    c.fill-2.ensures.after (λ y k. search rules)
    ∙ ap (λ (m : ℕ). replicate m 1) (omega (arith, length-take (i + n - i) (drop i c.args.filled.now), length-drop i c.args.filled.now)) in
    let a = stretch-mid i n (i + n - i) 0 c.args.values.now c.fill.new.self z h v in
    let b = stretch-mid i n (i + n - i) 1 c.args.filled.now c.fill-2.new.self z g w in
    let some : 0 < n = omega arith in (
      λ f k r. stretch-right i n 0 1 _ _ _ _ a b f (λ j l. k j (omega arith) (omega arith)) r,
      stretch-fills i n 0 1 _ _ _ _ a b some refl,
    )
