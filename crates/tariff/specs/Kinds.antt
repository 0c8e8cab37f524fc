-- The kinds of tariff.
use Rattle.std.specs.Prelude.{ℕ, cond, List, Some, None, codes, Option, ◌==◌}
use Rattle.tariff.specs.declared.kind.TariffKind.{TariffKind}
use Rattle.tariff.specs.declared.kind.TariffKind.TheVariants.{Standard, Night, Seasonal}

-- the kinds by number
abbrev pub kind_numbered : ℕ → Option TariffKind
kind_numbered n = cond (n == 1) (Some Standard) (cond (n == 2) (Some Night) (cond (n == 3) (Some Seasonal) None))

abbrev pub kind_name : TariffKind → List ℕ
kind_name Standard = codes "Standard"
kind_name Night = codes "Night"
kind_name Seasonal = codes "Seasonal"
