use Rattle.std.proofs.Common.{w16, SFits, rules}
use Rattle.std.proofs.lemmas.Int.{to_z-of_z}
use Rattle.fuel.proofs.price_line.Goals as goal

pub returns : goal.returns
returns c = let fits : SFits w16 c.args.found.price = search rules in simp to_z-of_z at c.format.ensures.ok
