-- How the code holds rules and classes. The contracts of this crate's functions, and of the lister, are said with it.
use Rattle.std.specs.Prelude.{Bool, true, cond, List, map, ℕ}
use Rattle.std.proofs.Math.Option.{Option, none, some}
use Rattle.covering.specs.Record.{Layout, new_places, stored, term_of, atoms_at}
use Rattle.covering.specs.Rule.{Rule}
use Rattle.book.specs.declared.Parts.{Parts}
use Rattle.unify.specs.Table.{Table}

-- what a rule's atoms and a question's keep to, its answer record among them: variables 0 to 47
abbrev pub in_book : Layout
in_book = record { atoms = 9; relations = 64; answers = true; places = new_places; variables = 48; constants = 127 }

-- the rule whose atoms stand in the bytes B: n body atoms from b on, h head atoms from d on
unfoldable pub rule_in : List ℕ → ℕ → ℕ → ℕ → ℕ → Rule
rule_in B b n d h = record { body = atoms_at stored B b n; head = atoms_at stored B d h }

-- the rule of these parts
abbrev pub rule_of : List ℕ → Parts → Rule
rule_of B p = rule_in B p.body p.bodies p.head p.heads

-- the classes in a table of bytes
unfoldable pub classes_of : List ℕ → Table
classes_of bytes = map term_of bytes

-- what an attempt to merge says: the classes as the bytes are now, or that two constants would meet
unfoldable pub merged : Bool → List ℕ → Option Table
merged ok bytes = cond ok (some (classes_of bytes)) none
