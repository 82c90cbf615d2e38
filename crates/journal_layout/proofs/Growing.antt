-- A JOURNAL GROWS: with blank lines behind it a sound journal is sound and holds the same statements.
use mathlib.Core.Path.{◌≡◌, ap, ◌∙◌}
use mathlib.Core.Bool.{true}
use mathlib.Core.List.{List, ◌++◌, append_assoc}
use Prim.Native.Nat.{ℕ, ◌+◌, ◌-◌, ◌*◌, ◌≤◌}
use native.Mathlib.Omega.{arith}
use lib.ListN.{length, replicate, replicate-append-replicate}
use Rattle.grammar.specs.Statements.{Statement}
use Rattle.records.specs.July.{record_size}
use Rattle.entries.specs.Entries.{most_entries, entry_size}
use Rattle.journal_layout.specs.Layout.{most_lines, is_length, lines_of, entries_of, bodies_of, journal_of, Journal}
use Rattle.journal_layout.specs.Test.{sound_in, held_of}
use Rattle.journal_layout.proofs.Testing.{is_long}
use Rattle.journal_layout.proofs.Exact.{journal_length, journal_sound, journal_list, sound_journal}

-- m blank lines
abbrev pub blank_lines : ℕ → List ℕ
blank_lines m = replicate (record_size * m) 32

-- blanks behind blanks
more_blanks : (x y : List ℕ) (k i : ℕ) → (x ++ (y ++ replicate k 32)) ++ replicate i 32 ≡ x ++ (y ++ replicate (k + i) 32)
more_blanks x y k i =
    append_assoc x (y ++ replicate k 32) (replicate i 32)
    ∙ ap (λ l. x ++ l) (append_assoc y (replicate k 32) (replicate i 32) ∙ ap (λ l. y ++ l) (replicate-append-replicate k i 32))

more_lines : (n m : ℕ) (ss : List Statement) → lines_of ss ≤ n → journal_of n ss ++ blank_lines m ≡ journal_of (n + m) ss
unfolding journal_of
more_lines n m ss r =
    let z : record_size * (n + m - lines_of ss) ≡ record_size * (n - lines_of ss) + record_size * m = omega arith in
    rw z
    (more_blanks (entries_of 0 ss ++ replicate (entry_size * (most_entries - length ss)) 32) (bodies_of ss) (record_size * (n - lines_of ss)) (record_size * m))

pub grown : {j : List ℕ} {ss : List Statement} → (g : Journal j ss) → (m : ℕ) → g.lines + m ≤ most_lines → Journal (j ++ blank_lines m) ss
grown {j} {ss} g m h =
    let r = g.kept.room in
    record {
      lines = g.lines + m;
      most = h;
      layout = ap (λ l. l ++ blank_lines m) g.layout ∙ more_lines g.lines m ss r;
      kept =
          record {
            few = g.kept.few;
            room = omega arith;
            alone = g.kept.alone;
            distinct = g.kept.distinct;
            chained = g.kept.chained;
          };
    }

-- the same of bytes
module _ (j : List ℕ) (m : ℕ) (h : sound_in j ≡ true) (l : is_length (length j + record_size * m) ≡ true) where
  longer : Journal (j ++ blank_lines m) (held_of j)
  longer =
      let g = sound_journal j h in
      let n = journal_length g in
      let o = (is_long (length j + record_size * m) l).most in
      grown g m (omega arith)

  pub grown_sound : sound_in (j ++ blank_lines m) ≡ true
  grown_sound = journal_sound longer

  pub grown_held : held_of (j ++ blank_lines m) ≡ held_of j
  grown_held = journal_list longer
