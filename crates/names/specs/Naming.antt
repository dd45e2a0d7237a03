-- Check 5 in code: what a row does with a name (document 01, "Names, labels, indexes"). Only functions inside the desk cite it.
use Rattle.std.specs.Prelude.{Bool, true, false, not, Option, Some, None}
use Rattle.std.proofs.Math.Option as rules
use Rattle.rules.specs.Scope.{Known}
use Rattle.rules.specs.Names.{is_found, is_declared}
use Rattle.table.specs.declared.meaning.Meaning.{Meaning}
use Rattle.table.specs.declared.meaning.Meaning.TheVariants as m
use Rattle.names.specs.declared.naming.NameUse.{NameUse}
use Rattle.names.specs.declared.naming.NameUse.TheVariants.{Reads, Binds, Stores}
use Rattle.names.specs.declared.naming.Naming.{Naming}

-- what a row does with a name, by its meaning
abbrev pub naming_of : Meaning → Option Naming
naming_of (m.Name x) = Some (record { usage = Reads; name = x })
naming_of (m.Element x i) = Some (record { usage = Reads; name = x })
naming_of (m.Declare x y n) = Some (record { usage = Binds; name = x })
naming_of (m.For x b f l) = Some (record { usage = Binds; name = x })
naming_of (m.Assign x v) = Some (record { usage = Stores; name = x })
naming_of (m.Write x i v) = Some (record { usage = Stores; name = x })
naming_of _ = None

-- a row is a declaration
abbrev pub is_declare : Meaning → Bool
is_declare (m.Declare x y n) = true
is_declare _ = false

-- check 5 of what is done with a name that stands for k
abbrev pub allowed_by : NameUse → rules.Option Known → Bool
allowed_by Reads k = is_found k
allowed_by Binds k = not (is_found k)
allowed_by Stores k = is_declared k

-- and of a row, by what it does with a name
abbrev pub passes_by : Option Naming → rules.Option Known → Bool
passes_by None k = true
passes_by (Some naming) k = allowed_by naming.usage k
