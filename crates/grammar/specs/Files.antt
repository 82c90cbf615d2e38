-- Files of bytes: what one record's bytes mean is a `Coding`; all else is built on it.
use Rattle.std.specs.Prelude.{◌≡◌, Bool, true, false, ◌&&◌, List, [], ◌∷◌, ◌++◌, map, ℕ, ◌*◌, ◌<◌, ◌≤◌, length, take, drop, get_or, ltb}
use Rattle.zones.specs.Choice.{pick}
use Rattle.zones.specs.Pieces.{flat}
use Rattle.framing.specs.declared.Form.{Form}
use Rattle.framing.specs.Files.{All, width_of, count_of, unknown_end, uneven, too_many, pieces_of, wrong_end, unpermitted, file_of}
use Rattle.grammar.specs.Answer.{Rule, rule, is_ruled, Answer, refused, Verdict}
use Rattle.grammar.specs.Machine.{Machine, scan}
use Rattle.grammar.specs.Record.{Rec, Edition}
use Rattle.grammar.specs.Rules.{Mode, out_of_place, differs, second_mmo, misdated, unsummed, too_long, State, taken, is_out, start}
use Rattle.grammar.specs.Since.{since_opening, inside, out_of_place_after, differs_after, second_mmo_after, misdated_after, unsummed_after, too_long_after, tally}
use Rattle.grammar.specs.Statements.{Statement, Valid, records_of, all_records, back}

-- A record's bytes: their number, the values they hold, the bytes of values, the form in which the writer writes such bytes, the values that bytes can hold,
-- and the rules 6, 8 and 9.
pub record Coding : Type 1 where
  pub size : ℕ
  pub edition : Edition
  pub decode : List ℕ → Rec
  pub encode : Rec → List ℕ
  pub canon : List ℕ → List ℕ
  pub Ok : Rec → Type 0
  pub unknown_code : List ℕ → Bool
  pub misfit : List ℕ → Bool
  pub undated : List ℕ → Bool

-- no rule on a record's bytes alone applies
pub record Fine (C : Coding) (b : List ℕ) : Type 0 where
  pub permitted : unpermitted b ≡ false
  pub known : C.unknown_code b ≡ false
  pub fits : C.misfit b ≡ false
  pub dated : C.undated b ≡ false

-- records of one length that no rule on the bytes tells apart and that hold the same values
pub record Alike (C : Coding) (a b : List ℕ) : Type 0 where
  pub sized : length a ≡ length b
  pub permitted : unpermitted a ≡ unpermitted b
  pub known : C.unknown_code a ≡ C.unknown_code b
  pub fits : C.misfit a ≡ C.misfit b
  pub dated : C.undated a ≡ C.undated b
  pub values : C.decode a ≡ C.decode b

-- what a crate of record layouts has to prove
pub record Lawful (C : Coding) : Type 0 where
  pub some : 0 < C.size
  pub ok : (b : List ℕ) → length b ≡ C.size → Fine C b → C.Ok (C.decode b)
  pub alike : (b : List ℕ) → length b ≡ C.size → Alike C (C.canon b) b
  pub once : (b : List ℕ) → length b ≡ C.size → C.canon (C.canon b) ≡ C.canon b
  pub again : (b : List ℕ) → length b ≡ C.size → Fine C b → C.encode (C.decode b) ≡ C.canon b
  pub wide : (r : Rec) → C.Ok r → length (C.encode r) ≡ C.size
  pub fine : (r : Rec) → C.Ok r → Fine C (C.encode r)
  pub same : (r : Rec) → C.Ok r → C.decode (C.encode r) ≡ r

module _ (C : Coding) where
  -- a piece of a file is a record and its line end
  abbrev pub rec_of : List ℕ → Rec
  rec_of p = C.decode (take C.size p)

  abbrev pub pieces : Form → List ℕ → List (List ℕ)
  pieces f b = pieces_of C.size f b

  -- a piece with its record as the writer writes it, and its line end as it stands
  abbrev pub canon_piece : List ℕ → List ℕ
  canon_piece p = C.canon (take C.size p) ++ drop C.size p

  -- a file with each record as the writer writes it: line ends, and what is left over behind the last piece, as they stand
  unfoldable pub canonical : Form → List ℕ → List ℕ
  canonical f b = flat (map canon_piece (pieces f b)) ++ drop (count_of C.size f b * width_of C.size f) b

  -- the file b of form f in the form g: its records as they stand, each followed by the line end of g
  unfoldable pub relined : (f g : Form) → List ℕ → List ℕ
  relined f g b = file_of g (map (take C.size) (pieces f b))

  -- statements laid out by the rules
  unfoldable pub layout_of : Form → List Statement → List ℕ
  layout_of f ss = file_of f (map C.encode (all_records C.edition ss))

  -- DEMAND 2: the bytes b are those of the valid statements ss, laid out by the rules, within the limits
  pub record Gives (f : Form) (b : List ℕ) (ss : List Statement) : Type 0 where
    pub line : unknown_end f ≡ false
    pub valid : All (Valid C.edition) ss
    pub ok : All C.Ok (all_records C.edition ss)
    pub layout : layout_of f ss ≡ b
    pub few : length (all_records C.edition ss) ≤ C.edition.most_in_file

  -- the same, with each record of b as the writer writes it
  pub record Reads (f : Form) (b : List ℕ) (ss : List Statement) : Type 0 where
    pub line : unknown_end f ≡ false
    pub valid : All (Valid C.edition) ss
    pub ok : All C.Ok (all_records C.edition ss)
    pub layout : layout_of f ss ≡ canonical f b
    pub few : length (all_records C.edition ss) ≤ C.edition.most_in_file

  -- the statements of an accepted file
  unfoldable pub statements_of : Form → List ℕ → List Statement
  statements_of f b = (back (map rec_of (pieces f b))).whole

  -- the values that an accepted file reads as: 19 is given for all others
  pub record Writable (s : Statement) : Type 0 where
    pub valid : Valid C.edition s
    pub ok : All C.Ok (records_of C.edition s)
    pub few : length (records_of C.edition s) ≤ C.edition.most_in_file

  -- the rules 4 to 13 and 15 on a piece, in rising order, in a state
  abbrev pub file_rules : Form → Mode → List ℕ → List Rule
  file_rules f m p =
      rule 4 (wrong_end C.size f p)
      ∷ rule 5 (unpermitted (take C.size p))
      ∷ rule 6 (C.unknown_code (take C.size p))
      ∷ rule 7 (out_of_place m (rec_of p))
      ∷ rule 8 (C.misfit (take C.size p))
      ∷ rule 9 (C.undated (take C.size p))
      ∷ rule 10 (differs m (rec_of p))
      ∷ rule 11 (second_mmo C.edition m (rec_of p))
      ∷ rule 12 (misdated m (rec_of p))
      ∷ rule 13 (unsummed m (rec_of p))
      ∷ rule 15 (too_long C.edition m)
      ∷ []

  abbrev pub files : Form → Machine
  files f =
      record {
        State = State;
        Record = List ℕ;
        rules = λ s. file_rules f s.mode;
        taken = λ s p. taken C.edition s (rec_of p);
        closed = λ s. is_out s.mode;
        counts = λ s. s.counts;
      }

  -- the check, as one pass
  unfoldable pub check_of : Form → List ℕ → Answer
  check_of f b =
      pick (unknown_end f) (refused 1 0)
      (pick (uneven C.size f b) (refused 2 0)
      (pick (too_many C.size C.edition.most_in_file f b) (refused 3 0) (scan (files f) 0 start (pieces f b))))

  -- THE RULE OF REFUSAL: the same rules, said of a piece and of the records before it
  abbrev pub rules_after : Form → List Rec → List ℕ → List Rule
  rules_after f since p =
      rule 4 (wrong_end C.size f p)
      ∷ rule 5 (unpermitted (take C.size p))
      ∷ rule 6 (C.unknown_code (take C.size p))
      ∷ rule 7 (out_of_place_after since (rec_of p))
      ∷ rule 8 (C.misfit (take C.size p))
      ∷ rule 9 (C.undated (take C.size p))
      ∷ rule 10 (differs_after C.edition since (rec_of p))
      ∷ rule 11 (second_mmo_after C.edition since (rec_of p))
      ∷ rule 12 (misdated_after since (rec_of p))
      ∷ rule 13 (unsummed_after since (rec_of p))
      ∷ rule 15 (too_long_after C.edition since)
      ∷ []

  -- number k applies to piece i, counted from 0
  unfoldable pub applies_in : Form → List (List ℕ) → (k i : ℕ) → Bool
  applies_in f ps k i =
      ltb i (length ps) && is_ruled k (rules_after f (since_opening (map rec_of (take i ps))) (get_or ps i []))

  -- 1 to 3 come first, in that order, with record 0; then the first record to which any of 4 to 13 or 15 applies; 14 comes last
  pub data Ruled (f : Form) (b : List ℕ) (a : Answer) : Type 0 where
    line : unknown_end f ≡ true → a ≡ refused 1 0 → Ruled f b a
    multiple : unknown_end f ≡ false → uneven C.size f b ≡ true → a ≡ refused 2 0 → Ruled f b a
    many : unknown_end f ≡ false → uneven C.size f b ≡ false → too_many C.size C.edition.most_in_file f b ≡ true → a ≡ refused 3 0
        → Ruled f b a
    records : unknown_end f ≡ false → uneven C.size f b ≡ false → too_many C.size C.edition.most_in_file f b ≡ false
        → Verdict (applies_in f (pieces f b)) (inside (since_opening (map rec_of (pieces f b)))) (count_of C.size f b) (tally (map rec_of (pieces f b))) a
        → Ruled f b a
