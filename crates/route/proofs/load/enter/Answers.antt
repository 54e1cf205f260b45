-- `route::load::enter` meets its contract. Assumes nothing.
use Rattle.std.proofs.Common.{◌≡◌, Bool, true, false, ◌&&◌, refl, sym, ap, ◌∙◌, length, rules, arith}
use Rattle.radix.proofs.Tests.{and_left, and-false}
use Rattle.route.proofs.Entering.{fit-of, entered, and-first}
use Rattle.route.proofs.load.enter.Goals as goal

pub station_repeat-requires : goal.station_repeat-requires
station_repeat-requires c = fit-of _ _ (and_left _ _ c.requires.station_value.0) c.requires.station_value.1

pub enter_moves-requires-clause-fit_2 : goal.enter_moves-requires-clause-fit_2
enter_moves-requires-clause-fit_2 c = fit-of _ _ (and_left _ _ c.requires.station_value.0) c.requires.station_value.1

pub enter_sizes-kept-requires-clause-fit : goal.enter_sizes-kept-requires-clause-fit
enter_sizes-kept-requires-clause-fit c = fit-of _ _ (and_left _ _ c.requires.station_value.0) c.requires.station_value.1

and-yes : (b : Bool) → b ≡ (b && true)
and-yes true = refl
and-yes false = refl

pub returns-then-not-kept : goal.returns-then-not-kept
returns-then-not-kept c =
    let parents-long : length c.args.loaded.now.parents ≡ 64 = search rules in
    let counts-long : length c.args.loaded.now.counts ≡ 64 = search rules in
    entered _ _ _ _ _ _ _ _ _ _
    (record {
      few = c.requires.shape_value.1;
      parents-room = omega (arith, c.requires.shape_value.1);
      counts-room = omega (arith, c.requires.shape_value.1);
      sound = c.requires.sound;
      numbers = c.requires.station_value.0;
      layouts = c.requires.station_value.1;
      few-from = c.requires.fit.few;
      here = c.station_repeat.result;
      here-is = c.station_repeat.ensures;
      repeat-is = c.and-repeat.ensures ∙ and-first c.args.loaded.now.repeat c.station_repeat.result;
      kept-is = sym (and-false c.args.loaded.now.sizes_kept (sym c.enter_sizes-kept.ensures.value ∙ c.if-not-kept.true));
      parent_is = c.feeding_station.ensures;
      sizes-in = c.enter_sizes-kept.ensures.filled;
      moves-in = c.enter_moves.ensures;
    })

pub returns-else-not-kept : goal.returns-else-not-kept
returns-else-not-kept c =
    let parents-long : length c.args.loaded.now.parents ≡ 64 = search rules in
    let counts-long : length c.args.loaded.now.counts ≡ 64 = search rules in
    entered _ _ _ _ _ _ _ _ _ _
    (record {
      few = c.requires.shape_value.1;
      parents-room = omega (arith, c.requires.shape_value.1);
      counts-room = omega (arith, c.requires.shape_value.1);
      sound = c.requires.sound;
      numbers = c.requires.station_value.0;
      layouts = c.requires.station_value.1;
      few-from = c.requires.fit.few;
      here = c.station_repeat.result;
      here-is = c.station_repeat.ensures;
      repeat-is = c.and-repeat.ensures ∙ and-first c.args.loaded.now.repeat c.station_repeat.result;
      kept-is =
          and-yes _ ∙ ap (λ (b : Bool). c.args.loaded.now.sizes_kept && b) (sym c.if-not-kept.false ∙ c.enter_sizes-kept.ensures.value);
      parent_is = c.feeding_station.ensures;
      sizes-in = c.enter_sizes-kept.ensures.filled;
      moves-in = c.enter_moves.ensures;
    })
