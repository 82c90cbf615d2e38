-- Small worked files and what the check answers on them.
use Rattle.std.specs.Prelude.{ℕ, List, [], ◌∷◌, ◌++◌}
use Prim.Native.String.{String}
use Rattle.zones.specs.Text.{bytes}
use Rattle.framing.specs.declared.Form.{Form}
use Rattle.grammar.specs.Answer.{Answer, accepted, refused}
use Rattle.grammar.specs.Files.{check_of}
use Rattle.records.specs.July.{coding_of}

-- the paper's worked statement
abbrev pub old : String
old = "0112345    00010EUR2 0001234567A  310125                                                  0000000010000{                "

abbrev pub receipt : String
receipt = "0412345    00010EUR2 0001234567A05050225  060225                                 0000000000000000002505{                "

abbrev pub debit : String
debit = "0412345    00010EUR2 0001234567A08070225  070225                                 0000000000000000000421P                "

abbrev pub new : String
new = "0712345    00010EUR2 0001234567A  280225                                                  0000000012083C                "

-- a complement of the debit, and what goes wrong
abbrev pub mmo : String
mmo = "0512345    00010EUR2 0001234567A08070225     MMOUSD200000000004500                                                      "

abbrev pub unsummed : String
unsummed = "0712345    00010EUR2 0001234567A  280225                                                  0000000012083D                "

abbrev pub early : String
early = "0712345    00010EUR2 0001234567A  060225                                                  0000000012083C                "

abbrev pub unreal : String
unreal = "0712345    00010EUR2 0001234567A  290225                                                  0000000012083C                "

abbrev pub elsewhere : String
elsewhere = "0712345    00011EUR2 0001234567A  280225                                                  0000000012083C                "

abbrev pub lowercase : String
lowercase = "0712345    00010eur2 0001234567A  280225                                                  0000000012083C                "

-- an empty account's balances, as two banks write them; a movement of nothing, with the same bytes in its label and its reference; a credit of 7;
-- a 05 with these bytes in its information, and one whose MMO amount they are
abbrev pub nil_old : String
nil_old = "0112345    00010EUR2 0001234567A  310125                                                  0000000000000}                "

abbrev pub nil_new : String
nil_new = "0712345    00010EUR2 0001234567A  280225                                                  0000000000000}                "

abbrev pub nil_movement : String
nil_movement = "0412345    00010EUR2 0001234567A05050225  0602250000000000000}                   0000000000000000000000}0000000000000}  "

abbrev pub seven : String
seven = "0412345    00010EUR2 0001234567A05050225  060225                                 0000000000000000000000G                "

abbrev pub note : String
note = "0512345    00010EUR2 0001234567A05050225     LIB                                          0000000000000}                "

abbrev pub mmo_nil : String
mmo_nil = "0512345    00010EUR2 0001234567A08070225     MMOUSD20000000000000}                                                      "

-- records end to end, each with what stands after it
abbrev pub file : List ℕ → List String → List ℕ
file end [] = []
file end (r ∷ rs) = bytes r ++ (end ++ file end rs)

abbrev pub bare : List String → List ℕ
bare rs = file [] rs

abbrev pub lf : List String → List ℕ
lf rs = file (10 ∷ []) rs

abbrev pub crlf : List String → List ℕ
crlf rs = file (13 ∷ 10 ∷ []) rs

pub record Case : Type 0 where
  pub line_end : ℕ
  pub bytes : List ℕ
  pub answer : Answer

abbrev pub case : ℕ → List ℕ → Answer → Case
case n b a = record { line_end = n; bytes = b; answer = a }

abbrev pub counts : ℕ → ℕ → ℕ → Answer
counts s m c = accepted (record { statements = s; movements = m; complements = c })

-- an empty account
abbrev pub nil : List ℕ
nil = lf (nil_old ∷ nil_new ∷ [])

abbrev pub cases : List Case
cases =
    case 1 nil (counts 1 0 0)
    ∷ case 0 [] (counts 0 0 0)
    ∷ case 0 (bare (old ∷ receipt ∷ debit ∷ new ∷ [])) (counts 1 2 0)
    ∷ case 1 (lf (old ∷ receipt ∷ debit ∷ mmo ∷ new ∷ [])) (counts 1 2 1)
    ∷ case 2 (crlf (old ∷ receipt ∷ debit ∷ new ∷ [])) (counts 1 2 0)
    ∷ case 3 [] (refused 1 0)
    ∷ case 0 (lf (old ∷ [])) (refused 2 0)
    ∷ case 1 (file (13 ∷ []) (old ∷ receipt ∷ debit ∷ new ∷ [])) (refused 4 1)
    ∷ case 0 (bare (old ∷ mmo ∷ new ∷ [])) (refused 7 2)
    ∷ case 0 (bare (old ∷ receipt ∷ debit ∷ lowercase ∷ [])) (refused 8 4)
    ∷ case 0 (bare (old ∷ receipt ∷ debit ∷ unreal ∷ [])) (refused 9 4)
    ∷ case 0 (bare (old ∷ receipt ∷ mmo ∷ new ∷ [])) (refused 10 3)
    ∷ case 0 (bare (old ∷ receipt ∷ debit ∷ elsewhere ∷ [])) (refused 10 4)
    ∷ case 0 (bare (old ∷ receipt ∷ debit ∷ mmo ∷ mmo ∷ new ∷ [])) (refused 11 5)
    ∷ case 0 (bare (old ∷ receipt ∷ debit ∷ early ∷ [])) (refused 12 4)
    ∷ case 0 (bare (old ∷ receipt ∷ debit ∷ unsummed ∷ [])) (refused 13 4)
    ∷ case 0 (bare (old ∷ receipt ∷ [])) (refused 14 2)
    ∷ case 0 (bare (nil_old ∷ nil_movement ∷ note ∷ nil_new ∷ [])) (counts 1 1 1)
    ∷ case 0 (bare (nil_old ∷ seven ∷ nil_new ∷ [])) (refused 13 3)
    ∷ case 0 (bare (old ∷ receipt ∷ debit ∷ mmo_nil ∷ new ∷ [])) (refused 8 4)
    ∷ []

-- records and what they are written as
abbrev pub written : List (String × String)
written =
    (nil_old, "0112345    00010EUR2 0001234567A  310125                                                  0000000000000{                ")
    ∷ (nil_new, "0712345    00010EUR2 0001234567A  280225                                                  0000000000000{                ")
    ∷ (old, old)
    ∷ (nil_movement, "0412345    00010EUR2 0001234567A05050225  0602250000000000000}                   0000000000000000000000{0000000000000}  ")
    ∷ (note, note)
    ∷ []

abbrev form_of : Case → Form
form_of c = record { line_end = c.line_end }

abbrev pub answers : List Case → List Answer
answers [] = []
answers (c ∷ cs) = check_of (coding_of (form_of c)) (form_of c) c.bytes ∷ answers cs

abbrev pub expected : List Case → List Answer
expected [] = []
expected (c ∷ cs) = c.answer ∷ expected cs
