-- Stated. The grammar of formulas, one type for each line of it. A tree keeps where its tokens begin. It is a profile
-- of R's (Chambers and Hastie 1992, Statistical Models in S, chapter 2), with smooths (Koenker, Ng and Portnoy 1994).
--
--   formula = NAME "~" [ "+" | "-" ] item { ( "+" | "-" ) item }      no qss and no offset follows "-"
--   item    = "0" | "1" | "qss" "(" NAME "," NUMBER ")" | "offset" "(" arith ")" | product
--   sum     = [ "+" | "-" ] product { ( "+" | "-" ) product }
--   product = inter { "*" inter }
--   inter   = power { ":" power }
--   power   = atom [ "^" DIGITS ]
--   atom    = NAME | "factor" "(" NAME ")" | "I" "(" arith ")" | "." | "(" sum ")"
use Rattle.std.specs.Prelude.{◌≡◌, ℕ, List, [], ◌∷◌, ◌++◌}
use Rattle.formula_grammar.specs.Words.{Span, Sign, Plus, Whole, Zero, Unity, Numeral, Digits, Name, FactorWord, QssWord, ArithWord, OffsetWord}
use Rattle.formula_grammar.specs.Words.{Number, Signed, Tilde, Star, Colon, Caret, Open, Close, Comma, Point, End, Token}
pub use Rattle.formula_grammar.specs.Arithmetics.{token, Lead, Bare, Led, lead_tokens}
use Rattle.formula_grammar.specs.Arithmetics.{Arith, arith_tokens}

mutual
  -- sum: products with the signs between them
  pub data Sum : Type 0 where
    First : (lead : Lead) (only : Product) → Sum
    More : (left : Sum) (sign : Sign) (place : ℕ) (right : Product) → Sum

  -- product: inters with stars between them
  pub data Product : Type 0 where
    One : (only : Inter) → Product
    Times : (left : Product) (place : ℕ) (right : Inter) → Product

  -- inter: powers with colons between them
  pub data Inter : Type 0 where
    Lone : (only : Power) → Inter
    Cross : (left : Inter) (place : ℕ) (right : Power) → Inter

  -- power: an atom, or one with an exponent
  pub data Power : Type 0 where
    Plain : (only : Atom) → Power
    Raised : (base : Atom) (place : ℕ) (exponent : Whole) (at : ℕ) → Power

  -- atom: a name, a name in `factor( )`, an arithmetic in `I( )`, the point, or a sum in parentheses
  pub data Atom : Type 0 where
    Leaf : (name : Span) (place : ℕ) → Atom
    Factor : (word opened : ℕ) (name : Span) (place closed : ℕ) → Atom
    Computed : (word opened : ℕ) (arith : Arith) (closed : ℕ) → Atom
    Dot : (place : ℕ) → Atom
    Group : (opened : ℕ) (inner : Sum) (closed : ℕ) → Atom

-- the item of a smooth
pub record Smooth : Type 0 where
  pub word : ℕ
  pub opened : ℕ
  pub name : Span
  pub place : ℕ
  pub comma : ℕ
  pub lambda : Numeral
  pub at : ℕ
  pub closed : ℕ

-- the item of an offset
pub record Offset : Type 0 where
  pub word : ℕ
  pub opened : ℕ
  pub arith : Arith
  pub closed : ℕ

-- a smooth or an offset
pub data Part : Type 0 where
  Smoothing : (smooth : Smooth) → Part
  Offsetting : (offset : Offset) → Part

-- an item that is neither
pub data Item : Type 0 where
  Nil : (place : ℕ) → Item
  Intercept : (place : ℕ) → Item
  Term : (product : Product) → Item

-- items with the signs between them; a smooth or an offset stands first, behind a leading plus, or behind a plus
pub data Items : Type 0 where
  Start : (lead : Lead) (item : Item) → Items
  StartPart : (part : Part) → Items
  StartPlus : (place : ℕ) (part : Part) → Items
  Then : (left : Items) (sign : Sign) (place : ℕ) (item : Item) → Items
  ThenPart : (left : Items) (place : ℕ) (part : Part) → Items

-- the response and the tilde
pub record Head : Type 0 where
  pub response : Span
  pub place : ℕ
  pub tilde : ℕ

-- a whole formula
pub record Formula : Type 0 where
  pub head : Head
  pub items : Items
  pub ended : ℕ

abbrev mutual
  -- the tokens of a sum and of what is in it
  pub sum_tokens : Sum → List Token
  sum_tokens (First l p) = lead_tokens l ++ product_tokens p
  sum_tokens (More s x n p) = sum_tokens s ++ (token (Signed x) n ∷ product_tokens p)

  pub product_tokens : Product → List Token
  product_tokens (One i) = inter_tokens i
  product_tokens (Times p n i) = product_tokens p ++ (token Star n ∷ inter_tokens i)

  pub inter_tokens : Inter → List Token
  inter_tokens (Lone p) = power_tokens p
  inter_tokens (Cross i n p) = inter_tokens i ++ (token Colon n ∷ power_tokens p)

  pub power_tokens : Power → List Token
  power_tokens (Plain a) = atom_tokens a
  power_tokens (Raised a n k m) = atom_tokens a ++ (token Caret n ∷ token (Number (Digits k)) m ∷ [])

  pub atom_tokens : Atom → List Token
  atom_tokens (Leaf x n) = token (Name x) n ∷ []
  atom_tokens (Factor w o x n c) = token FactorWord w ∷ token Open o ∷ token (Name x) n ∷ token Close c ∷ []
  atom_tokens (Computed w o a c) = token ArithWord w ∷ token Open o ∷ (arith_tokens a ++ (token Close c ∷ []))
  atom_tokens (Dot n) = token Point n ∷ []
  atom_tokens (Group o s c) = token Open o ∷ (sum_tokens s ++ (token Close c ∷ []))

-- the tokens of a smooth
abbrev pub smooth_tokens : Smooth → List Token
smooth_tokens s =
    token QssWord s.word ∷ token Open s.opened ∷ token (Name s.name) s.place ∷ token Comma s.comma
    ∷ token (Number s.lambda) s.at ∷ token Close s.closed ∷ []

-- the tokens of an offset
abbrev pub offset_tokens : Offset → List Token
offset_tokens f = token OffsetWord f.word ∷ token Open f.opened ∷ (arith_tokens f.arith ++ (token Close f.closed ∷ []))

-- the tokens of either
abbrev pub part_tokens : Part → List Token
part_tokens (Smoothing s) = smooth_tokens s
part_tokens (Offsetting f) = offset_tokens f

-- the tokens of an item
abbrev pub item_tokens : Item → List Token
item_tokens (Nil n) = token (Number (Digits Zero)) n ∷ []
item_tokens (Intercept n) = token (Number (Digits Unity)) n ∷ []
item_tokens (Term p) = product_tokens p

-- the tokens of items
abbrev pub items_tokens : Items → List Token
items_tokens (Start l i) = lead_tokens l ++ item_tokens i
items_tokens (StartPart p) = part_tokens p
items_tokens (StartPlus n p) = token (Signed Plus) n ∷ part_tokens p
items_tokens (Then i x n j) = items_tokens i ++ (token (Signed x) n ∷ item_tokens j)
items_tokens (ThenPart i n p) = items_tokens i ++ (token (Signed Plus) n ∷ part_tokens p)

-- the tokens of the response and the tilde
abbrev pub head_tokens : Head → List Token
head_tokens h = token (Name h.response) h.place ∷ token Tilde h.tilde ∷ []

-- the end of the text counts as a token
abbrev pub formula_tokens : Formula → List Token
formula_tokens f = head_tokens f.head ++ (items_tokens f.items ++ (token End f.ended ∷ []))

-- some formula begins with these tokens
pub record Begins (front : List Token) : Type 0 where
  pub formula : Formula
  pub rest : List Token
  pub whole : front ++ rest ≡ formula_tokens formula

-- the grammar is unambiguous: no tokens are those of two formulas
abbrev pub OneFormula : Type 0
OneFormula = (f g : Formula) → formula_tokens f ≡ formula_tokens g → f ≡ g
