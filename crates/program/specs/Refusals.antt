-- What a clerk is told of a refusal.
use Rattle.std.specs.Prelude.{ℕ, List, Some, Option, codes, decimal}
use Rattle.std.specs.Fmt.{◌++?◌}
use Rattle.anyhow.specs.Error.{HasMessage}
use Rattle.anyhow.specs.declared.error.Error.{Error}
use Rattle.tariff.specs.declared.refusal.Refusal.{Refusal}

-- the number, and why
abbrev pub refusal_text : ℕ → Option (List ℕ) → Option (List ℕ)
refusal_text number why = Some (codes "refused (") ++? (Some (decimal number) ++? (Some (codes "): ") ++? why))

-- the error tells of such a refusal
pub record Tells (is : Refusal → Type 0) (why : Option (List ℕ)) (e : Error) : Type 0 where
  pub refusal : Refusal
  pub made : is refusal
  pub told : HasMessage (refusal_text refusal.number why) e
