-- Law. The arithmetics of a formula as those of formula_arith: each tree of the grammar as an arithmetic whose names are
-- those of its columns. What the tokens and the code of a tree say is the text, the names and the code of that arithmetic.
use Rattle.std.specs.Prelude.{◌≡◌, ◌==◌, not, List}
use Rattle.frac_core.specs.declared.arith.Arith.{Arith}
use Rattle.formula_arith.specs.Arithmetics.{Arithmetic, distinct_names}
use Rattle.formula_arith.specs.Arithmetics as value
use Rattle.formula_arith.specs.Codes.{arithmetic_code}
use Rattle.formula_arith.specs.Texts.{arithmetic_text}
use Rattle.formula_parser.specs.Words.{Span, Sign, Plus, Minus}
use Rattle.formula_grammar.specs.Numerals.{fraction_of, power_of}
use Rattle.formula_grammar.specs.Arithmetics.{Lead, Bare, Led, Aprod, Apow, Aatom, First, More, One, Times, Plain, Raised, Leaf, Constant, Group}
use Rattle.formula_grammar.specs.Arithmetics.{Arith as Tree}
use Rattle.formula_grammar.specs.ArithCodes.{part_of}
use Rattle.formula_parser.specs.Columns.{Text}
use Rattle.formula_parser.specs.Arithmetics.{column_name, part_said}

-- a sign
abbrev pub sign_said : Sign → value.Sign
sign_said Plus = value.Plus
sign_said Minus = value.Minus

-- a leading sign, or none
abbrev pub lead_said : Lead → value.Lead
lead_said Bare = value.Bare
lead_said (Led s n) = value.Led (sign_said s)

-- `named` gives the name of the column that a piece of the text stands for
module _ (named : Span → Text) where
  -- each tree as one whose tokens have no places; a name is quoted where it doesn't begin with its token
  abbrev mutual
    pub arith_said : Tree → Arithmetic
    arith_said (First l p) = value.First (lead_said l) (aprod_said p)
    arith_said (More a s n p) = value.More (arith_said a) (sign_said s) (aprod_said p)

    pub aprod_said : Aprod → value.Product
    aprod_said (One p) = value.One (apow_said p)
    aprod_said (Times a n p) = value.Times (aprod_said a) (apow_said p)

    pub apow_said : Apow → value.Power
    apow_said (Plain a) = value.Plain (aatom_said a)
    apow_said (Raised a n k m) = value.Raised (aatom_said a) (power_of k)

    pub aatom_said : Aatom → value.Atom
    aatom_said (Leaf x n) = value.Named (not (x.start == n)) (named x)
    aatom_said (Constant v n) = value.Number (fraction_of v)
    aatom_said (Group o a c) = value.Group (arith_said a)

-- the text, the names and the code of an arithmetic
abbrev pub told : Arithmetic → Arith
told a = record { text = arithmetic_text a; names = distinct_names a; code = arithmetic_code (distinct_names a) a }

-- an arithmetic of a formula says what the arithmetic of its tree does
abbrev pub PartsAreArithmetics : Type 0
PartsAreArithmetics = (text : Text) (names : List Text) (a : Tree) → part_said text names (part_of a) ≡ told (arith_said (column_name text names) a)
