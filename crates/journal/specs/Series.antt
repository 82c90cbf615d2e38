-- DEMAND 3, over any two functions that open a journal and deliver to it: after any series of deliveries, with any bytes.
use Rattle.std.specs.Prelude.{◌≡◌, true, false, List, [], ◌∷◌, ◌++◌, ℕ, ◌+◌, length, Result, Ok, Err}
use Rattle.framing.specs.declared.Form.{Form}
use Rattle.framing.specs.Files.{unknown_end}
use Rattle.grammar.specs.declared.Key.{Key}
use Rattle.grammar.specs.Statements.{Statement}
use Rattle.grammar.specs.Files.{relined, Reads, statements_of}
use Rattle.records.specs.July.{coding_of}
use Rattle.journal_layout.specs.Chains.{Chained, of_account, Distinct}
use Rattle.journal_layout.specs.Layout.{is_length, Journal}
use Rattle.journal.specs.declared.Delivery.{Delivery}
use Rattle.journal.specs.declared.Rejection.{Rejection}
use Rattle.journal.specs.Answers.{done}
use Rattle.journal.specs.Arrivals.{arrivals, Summed}

-- what happens to a journal: a file is delivered, of any form and with any bytes
pub data Event : Type 0 where
  deliver : (form : Form) (file : List ℕ) → Event

-- the answer to a file and the journal after it
pub record After : Type 0 where
  pub answer : Result Delivery Rejection
  pub journal : List ℕ

-- a delivery answers for any journal, form and file
abbrev pub Deliver : Type 0
Deliver = List ℕ → Form → List ℕ → After

-- the statements of a file delivered without a refusal
abbrev pub accepted_by : Result Delivery Rejection → List Statement → List Statement
accepted_by (Ok d) ss = ss
accepted_by (Err r) ss = []

module _ (D : Deliver) where
  -- the journal after one event
  abbrev pub after_one : List ℕ → Event → List ℕ
  after_one j (deliver f b) = (D j f b).journal

  -- the journal after a series
  unfoldable pub after : List ℕ → List Event → List ℕ
  after j [] = j
  after j (e ∷ es) = after (after_one j e) es

  -- the statements held after one event, where hs were held: those of a file delivered without a refusal come behind them, in order of first arrival
  abbrev pub held_after_one : List ℕ → List Statement → Event → List Statement
  held_after_one j hs (deliver f b) = hs ++ arrivals hs (accepted_by (D j f b).answer (statements_of (coding_of f) f b))

  -- the statements held along a series, where hs were held
  unfoldable pub held_along : List ℕ → List Statement → List Event → List Statement
  held_along j hs [] = hs
  held_along j hs (e ∷ es) = held_along (after_one j e) (held_after_one j hs e) es

  -- the same, where none was held
  abbrev pub held_after : List ℕ → List Event → List Statement
  held_after j es = held_along j [] es

  -- in the paper's words: the statements of the accepted files of a series, one file after another; accepted means here: delivered without a refusal
  unfoldable pub accepted : List ℕ → List Event → List Statement
  accepted j [] = []
  accepted j (deliver f b ∷ es) = accepted_by (D j f b).answer (statements_of (coding_of f) f b) ++ accepted (D j f b).journal es

-- a file of the statements ss is answered as wholly held and changes nothing
abbrev pub WhollyHeld : Deliver → (j : List ℕ) → Form → (b : List ℕ) → List Statement → Type 0
WhollyHeld D j f b ss = D j f b ≡ record { answer = done 0 (length ss); journal = j }

pub record Demand3 (O : List ℕ → List ℕ) (D : Deliver) : Type 0 where
  -- it holds the statements of the accepted files, in order of first arrival
  pub holds : (j : List ℕ) → is_length (length j) ≡ true → (es : List Event) → Journal (after D (O j) es) (held_after D (O j) es)
  -- it is as long as the buffer that was lent
  pub room : (j : List ℕ) → is_length (length j) ≡ true → (es : List Event) → length (after D (O j) es) ≡ length j
  -- no two identical
  pub distinct : (j : List ℕ) → is_length (length j) ≡ true → (es : List Event) → Distinct (held_after D (O j) es)
  -- each account's link, new balance to next old balance, on the day of the new date or later
  pub chained : (j : List ℕ) → is_length (length j) ≡ true → (es : List Event) (k : Key) → Chained (of_account k (held_after D (O j) es))
  -- its first old balance plus every movement held is its last new balance
  pub summed : (j : List ℕ) → is_length (length j) ≡ true → (es : List Event) (k : Key) → Summed (of_account k (held_after D (O j) es))
  -- what is answered without a refusal is a file of statements
  pub reads : (j : List ℕ) → is_length (length j) ≡ true → (es : List Event) (f : Form) (b : List ℕ) (s h : ℕ)
      → (D (after D (O j) es) f b).answer ≡ done s h → Reads (coding_of f) f b (statements_of (coding_of f) f b)
  -- the answer is how many of the file's statements were stored and how many were held
  pub counts : (j : List ℕ) → is_length (length j) ≡ true → (es : List Event) (f : Form) (b : List ℕ) (s h : ℕ)
      → (D (after D (O j) es) f b).answer ≡ done s h
      → (s ≡ length (arrivals (held_after D (O j) es) (statements_of (coding_of f) f b))) × (s + h ≡ length (statements_of (coding_of f) f b))
  -- such a file, sent again at any later time with any of the three line ends, is answered as wholly held and changes nothing
  pub again : (j : List ℕ) → is_length (length j) ≡ true → (es : List Event) (f : Form) (b : List ℕ) (s h : ℕ)
      → (D (after D (O j) es) f b).answer ≡ done s h
      → (later : List Event) (g : Form) → unknown_end g ≡ false
      → WhollyHeld D (after D (O j) (es ++ (deliver f b ∷ later))) g (relined (coding_of f) f g b) (statements_of (coding_of f) f b)
  -- and so is any file of the same statements: its zeros may have the other sign
  pub alike : (j : List ℕ) → is_length (length j) ≡ true → (es : List Event) (f : Form) (b : List ℕ) (s h : ℕ)
      → (D (after D (O j) es) f b).answer ≡ done s h
      → (later : List Event) (g : Form) (c : List ℕ) → Reads (coding_of g) g c (statements_of (coding_of f) f b)
      → WhollyHeld D (after D (O j) (es ++ (deliver f b ∷ later))) g c (statements_of (coding_of f) f b)
