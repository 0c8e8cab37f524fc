use Rattle.std.proofs.Common.{ℕ, Some, sym, ap, ◌∙◌}
use Rattle.std.specs.Option.{option_map}
use Rattle.tariff.specs.Discount.{discounted_step}
use Rattle.tariff.specs.Percent.{step_kept}
use Rattle.tariff.proofs.discount.methods.DiscountTariff.step.Goals as goal

pub returns-in_err-end : goal.returns-in_err-end
returns-in_err-end g c =
    let percent = c.args.self.now.percent in
    c.from_residual.ensures
    ∙ ap (option_map (discounted_step percent)) (sym c.in_err-end.was ∙ c.step.ensures)
    ∙ step_kept percent (g.T.Tariff.tables c.args.self.now.supply) c.args.class c.args.step

pub returns : goal.returns
returns g c =
    let percent = c.args.self.now.percent in
    ap (λ (price : ℕ). Some (c.in_ok-end.end, price)) c.price_at.ensures
    ∙ ap (option_map (discounted_step percent)) (sym c.in_ok-end.was ∙ c.step.ensures)
    ∙ step_kept percent (g.T.Tariff.tables c.args.self.now.supply) c.args.class c.args.step
