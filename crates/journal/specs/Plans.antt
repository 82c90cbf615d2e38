-- What the code works on: the parts of a file that are to be stored, what they say of a statement, and how they are written into the journal.
use mathlib.Core.HLevel.{×_prop, Unit-prop}
use native.Mathlib.Bridge.{le_prop}
use Rattle.std.specs.Prelude.{◌≡◌, Bool, true, false, ◌||◌, List, [], ◌∷◌, ◌++◌, ℕ, ◌+◌, ◌-◌, ◌*◌, ◌/◌, ◌<◌, ◌≤◌, length, take, drop, Result, Ok, Err}
use Rattle.std.specs.declared.option.Option.{Option}
use Rattle.std.specs.declared.option.Option.TheVariants.{Some, None}
use Rattle.zones.specs.Choice.{pick}
use Rattle.framing.specs.declared.Form.{Form}
use Rattle.framing.specs.Files.{All, width_of}
use Rattle.framing.specs.declared.refusals.Refusal.{Refusal}
use Rattle.grammar.specs.Answer.{Counts, accepted}
use Rattle.grammar.specs.Statements.{Statement}
use Rattle.grammar.specs.Files.{Reads, statements_of, check_of}
use Rattle.grammar.specs.Parts.{size_of}
use Rattle.records.specs.July.{record_size, coding_of}
use Rattle.bodies.specs.Bodies.{body_of, same_records}
use Rattle.entries.specs.Entries.{most_entries, entry_size, line_at}
use Rattle.journal_layout.specs.declared.Judgement.{Judgement}
use Rattle.journal_layout.specs.declared.Judgement.TheVariants.{Held}
use Rattle.journal_layout.specs.Layout.{lines_of, entry_of}
use Rattle.journal_layout.specs.Test.{sound_in, held_of, later_of, judged_by}
use Rattle.journal.specs.Delivery.{is_held, verdict_of, delivered, refused, lines_in, content_of, outcome_of}
use Rattle.journal.specs.declared.Rejection.{Rejection}
use Rattle.journal.specs.declared.Delivery.{Delivery}
use Rattle.journal.specs.declared.Verdict.{Verdict}
use Rattle.journal.specs.declared.Bounds.{Bounds}
use Rattle.journal.specs.declared.Plan.{Plan}
use Rattle.journal.specs.declared.Found.{Found}
use Rattle.journal.specs.Newest.{Lies}
use Rattle.journal.specs.Arrivals.{Span, span, arrivals, spans_of}

-- a part of a file, between its two places
abbrev pub part_of : Bounds → List ℕ → List ℕ
part_of x b = take (x.end - x.first) (drop x.first b)

abbrev pub parts_of : List Bounds → List ℕ → List (List ℕ)
parts_of [] b = []
parts_of (x ∷ xs) b = part_of x b ∷ parts_of xs b

-- its places lie in the file, in order
pub record Within (x : Bounds) (b : List ℕ) : Type 0 where
  pub rises : x.first ≤ x.end
  pub within : x.end ≤ length b

abbrev pub Inside : List Bounds → List ℕ → Type 0
Inside xs b = All (λ x. Within x b) xs

-- it has one proof at most, so a ghost field may hold it
Within-prop : (x : Bounds) (b : List ℕ) → IsProp (Within x b)
Within-prop x b p q = λ i. record { rises = le_prop p.rises q.rises i; within = le_prop p.within q.within i }

pub Inside-prop : (xs : List Bounds) (b : List ℕ) → IsProp (Inside xs b)
Inside-prop [] b = Unit-prop
Inside-prop (x ∷ xs) b = ×_prop (Within-prop x b) (Inside-prop xs b)

-- no part
abbrev pub nowhere : Bounds
nowhere = record { first = 0; end = 0 }

-- what the parts say of a statement, behind what was said before
unfoldable pub held_in : Form → List (List ℕ) → List ℕ → Bool
held_in f [] s = false
held_in f (h ∷ hs) s = same_records f h f s || held_in f hs s

unfoldable pub last_in : Judgement → Form → List (List ℕ) → List ℕ → Judgement
last_in last f [] s = last
last_in last f (h ∷ hs) s = last_in (later_of last f h s) f hs s

unfoldable pub judged_in : Judgement → Form → List (List ℕ) → List ℕ → Judgement
judged_in last f hs s = pick (held_in f hs s) Held (last_in last f hs s)

-- what the held statements, so many, and then the parts say of a statement
unfoldable pub judged_all : List ℕ → (held : ℕ) → Form → List (List ℕ) → List ℕ → Judgement
judged_all j held f hs s = pick (is_held (judged_by j held f s)) Held (judged_in (judged_by j held f s) f hs s)

-- parts that read as statements, one for one
abbrev pub Reading : Form → List (List ℕ) → List Statement → Type 0
Reading f [] [] = Unit
Reading f [] (s ∷ ss) = ⊥
Reading f (h ∷ hs) [] = ⊥
Reading f (h ∷ hs) (s ∷ ss) = Reads (coding_of f) f h (s ∷ []) × Reading f hs ss

-- a statement written into entry e and the lines from k on
abbrev pub entry_written : (e k : ℕ) → Statement → List ℕ → List ℕ
entry_written e k s j = take (entry_size * e) j ++ (entry_of k s ++ drop (entry_size * e + entry_size) j)

abbrev pub body_written : (k : ℕ) → Statement → List ℕ → List ℕ
body_written k s j = take (line_at k) j ++ (body_of s ++ drop (line_at k + record_size * size_of s) j)

unfoldable pub written : (e k : ℕ) → Statement → List ℕ → List ℕ
written e k s j = body_written k s (entry_written e k s j)

-- one after another
unfoldable pub written_all : (e k : ℕ) → List Statement → List ℕ → List ℕ
written_all e k [] j = j
written_all e k (s ∷ ss) j = written_all (e + 1) (k + size_of s) ss (written e k s j)

-- entries and lines for all of them
abbrev pub Roomy : (e k size : ℕ) → List Statement → Type 0
Roomy e k size [] = Unit
Roomy e k size (s ∷ ss) = (e < most_entries) × (line_at (k + size_of s) ≤ size) × Roomy (e + 1) (k + size_of s) size ss

-- a sound journal and an accepted file
pub record Deliverable (j : List ℕ) (f : Form) (b : List ℕ) : Type 0 where
  pub sound : sound_in j ≡ true
  pub counts : Counts
  pub yes : check_of (coding_of f) f b ≡ accepted counts

-- a turn of the dry run: a part of a file reads as one statement, and the parts planned so far leave so many lines behind those held
pub record Judgeable (j : List ℕ) (f : Form) (b : List ℕ) (xs : List Bounds) (held left : ℕ) (x : Bounds) : Type 0 where
  pub statement : Statement
  pub list : List Statement
  pub sound : sound_in j ≡ true
  pub entry : held ≡ length (held_of j)
  pub few : held + length xs ≤ most_entries
  pub planned : Reading f (parts_of xs b) list
  pub room : left ≡ lines_in j - lines_of (held_of j ++ list)
  pub within : Within x b
  pub reads : Reads (coding_of f) f (part_of x b) (statement ∷ [])

-- its answer: the verdict on that statement beside the held and the planned ones
pub record Turned (j : List ℕ) (f : Form) (b : List ℕ) (xs : List Bounds) (held left : ℕ) (x : Bounds) (v : Result Verdict Rejection) : Type 0 where
  pub verdict : (t : Judgeable j f b xs held left x)
      → v ≡ verdict_of (lines_in j) (held_of j ++ t.list) t.statement (x.first / width_of record_size f + 1)

-- parts that can be written from an entry and a line on
pub record Storable (j : List ℕ) (f : Form) (b : List ℕ) (xs : List Bounds) (entry line : ℕ) : Type 0 where
  pub list : List Statement
  pub reads : Reading f (parts_of xs b) list
  pub room : Roomy entry line (length j) list

-- where the parts stand
abbrev pub spans_at : List Bounds → List Span
spans_at [] = []
spans_at (x ∷ xs) = span x.first (x.end - x.first) ∷ spans_at xs

-- what a delivery by a plan answers
abbrev pub delivery_of : Plan → Delivery
delivery_of p = record { stored = p.count; held = p.held }

-- A plan: the statements to store, with room for them. They are those that are new, in order of first arrival, behind those held; written into the journal they are the delivery's content.
pub record Plans (j : List ℕ) (f : Form) (b : List ℕ) (p : Plan) : Type 0 where
  pub few : p.count ≤ length p.bounds
  pub inside : Inside (take p.count p.bounds) b
  pub storable : Storable j f b (take p.count p.bounds) p.entry p.line
  pub outcome : outcome_of j f b ≡ delivered (held_of j ++ storable.list) p.count p.held
  pub content : written_all p.entry p.line storable.list j ≡ content_of j f b
  pub sound : sound_in j ≡ true
  pub new : storable.list ≡ arrivals (held_of j) (statements_of (coding_of f) f b)
  pub spans : spans_at (take p.count p.bounds) ≡ spans_of (width_of record_size f) (held_of j) 0 (statements_of (coding_of f) f b)
  pub entry : p.entry ≡ length (held_of j)

-- or the delivery is refused
abbrev pub Planned : List ℕ → Form → List ℕ → Result Plan Rejection → Type 0
Planned j f b (Ok p) = Plans j f b p
Planned j f b (Err r) = outcome_of j f b ≡ refused r

-- the parts and the entries that hold every statement after a delivery without a refusal
pub record Searchable (j : List ℕ) (f : Form) (b : List ℕ) (xs : List Bounds) (held : ℕ) : Type 0 where
  pub list : List Statement
  pub sound : sound_in j ≡ true
  pub entry : held ≡ length (held_of j)
  pub reads : Reading f (parts_of xs b) list
  pub new : list ≡ arrivals (held_of j) (statements_of (coding_of f) f b)
  pub spans : spans_at xs ≡ spans_of (width_of record_size f) (held_of j) 0 (statements_of (coding_of f) f b)

-- a number from 1, by an index from 0; 0 where there is none
abbrev pub number_of : Option ℕ → ℕ
number_of None = 0
number_of (Some i) = i + 1

-- what was found, and that it lies there
pub record Finds (answer : Result Found Refusal) (j b : List ℕ) (r : Result Found Refusal) : Type 0 where
  pub same : r ≡ answer
  pub lies : Lies r (length j) (length b)
