use Rattle.std.proofs.Common.{rules}
use Rattle.program.proofs.number.read.Goals as goal

pub returns : goal.returns
returns g c =
    let ok = c.in_ok-number.ensures in
    record {
      number = c.in_ok-number.number;
      parsed = rw ok at c.parse.ensures.value;
      converted = c.try_from.result;
      conversion = c.try_from.ensures;
      value = search rules;
    }
