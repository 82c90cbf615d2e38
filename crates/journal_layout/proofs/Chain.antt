-- A row in which each statement is new and follows is one without two identical, with an unbroken chain for each account; and the other way round.
use mathlib.Core.Path.{◌≡◌, refl, ap}
use mathlib.Core.Bool.{Bool, true, false, ◌||◌}
use mathlib.Core.Logic.{◌↔◌}
use mathlib.Core.List.{List, [], ◌∷◌, ◌++◌, append_assoc, append-nil}
use Prim.Native.Nat.{ℕ, ◌≤◌}
use native.Mathlib.Omega.{arith}
use lib.Dec.{leb}
use lib.IntN.{ℤ}
use borrow.Author.Tests.{leb-true, le-leb}
use Rattle.zones.specs.Choice.{pick}
use Rattle.zones.proofs.Bools.{and_left, and_right, both}
use Rattle.zones.proofs.Copies.{equal_same}
use Rattle.framing.specs.Files.{All}
use Rattle.grammar.specs.declared.Key.{Key}
use Rattle.grammar.specs.Record.{same_key}
use Rattle.grammar.specs.Statements.{Statement}
use Rattle.grammar.specs.Files.{Writable}
use Rattle.grammar.proofs.Tests.{clash, same_key_true, same_key_self, same_amount_true, same_amount_self}
use Rattle.records.specs.July.{july}
use Rattle.bodies.specs.Bodies.{body_of, identical}
use Rattle.bodies.proofs.Identical.{identical_bodies}
use Rattle.journal_layout.specs.declared.Judgement.{Judgement}
use Rattle.journal_layout.specs.declared.Judgement.TheVariants.{Held, First, After}
use Rattle.journal_layout.specs.Chains.{held_among, last_among, judgement_of, follows_by, follows, Links, Chained, of_account, NeverFalls, Distinct}

-- after those of A, each is new and follows
abbrev pub Row : List Statement → List Statement → Type 0
Row A [] = Unit
Row A (s ∷ ss) = (follows s A ≡ true) × Row (A ++ (s ∷ [])) ss

-- a row with one more at its end
pub row_snoc : (A B : List Statement) (s : Statement) → Row A B → follows s (A ++ B) ≡ true → Row A (B ++ (s ∷ []))
row_snoc A [] s r f = (rw (append-nil A) at f, tt)
row_snoc A (b ∷ B) s r f = (r.0, row_snoc (A ++ (b ∷ [])) B s r.1 (rw (append_assoc A (b ∷ []) B) f))

-- ---- new

-- what holds of all and of one more
all_snoc : (P : Statement → Type 0) (A : List Statement) (s : Statement) → All P A → P s → All P (A ++ (s ∷ []))
all_snoc P [] s h p = (p, tt)
all_snoc P (a ∷ A) s h p = (h.0, all_snoc P A s h.1 p)

-- no two are identical, and one more is new
distinct_snoc : (A : List Statement) (s : Statement) → Distinct A → held_among s A ≡ false → Distinct (A ++ (s ∷ []))
unfolding held_among identical
distinct_snoc [] s d h = (tt, tt)
distinct_snoc (a ∷ A) s d h = by (identical a s) refl h (distinct_snoc A s d.1)
  where
    by : (t : Bool) → identical a s ≡ t → (t || held_among s A) ≡ false → (held_among s A ≡ false → Distinct (A ++ (s ∷ []))) → Distinct ((a ∷ A) ++ (s ∷ []))
    by true e g i = absurd (clash refl g)
    by false e g i = (all_snoc (λ t. body_of a ≡ body_of t → ⊥) A s d.0 (λ q. clash (rw q (equal_same (body_of s))) e), i g)

-- a member of such a row is new among those before it
new_there : (A : List Statement) (s : Statement) (B : List Statement) → Distinct (A ++ (s ∷ B)) → held_among s A ≡ false
unfolding held_among
new_there [] s B d = refl
new_there (a ∷ A) s B d = by (identical a s) refl (new_there A s B d.1) (apart A d.0)
  where
    apart : (A : List Statement) → All (λ t. body_of a ≡ body_of t → ⊥) (A ++ (s ∷ B)) → body_of a ≡ body_of s → ⊥
    apart [] h = h.0
    apart (x ∷ A) h = apart A h.1

    by : (t : Bool) → identical a s ≡ t → held_among s A ≡ false → (body_of a ≡ body_of s → ⊥) → (t || held_among s A) ≡ false
    by true e g n = absurd (n (identical_bodies a s e))
    by false e g n = g

-- ---- the chain

-- the statements of an account in two rows
pub account_append : (k : Key) (A B : List Statement) → of_account k (A ++ B) ≡ of_account k A ++ of_account k B
unfolding of_account
account_append k [] B = refl
account_append k (a ∷ A) B = by (same_key a.key k) (account_append k A B)
  where
    by : (t : Bool) → of_account k (A ++ B) ≡ of_account k A ++ of_account k B
        → pick t (a ∷ of_account k (A ++ B)) (of_account k (A ++ B)) ≡ pick t (a ∷ of_account k A) (of_account k A) ++ of_account k B
    by true e = ap (λ l. a ∷ l) e
    by false e = e

-- new date and new balance of the last of a row
abbrev pub last_of : Judgement → List Statement → Judgement
last_of last [] = last
last_of last (s ∷ ss) = last_of (After s.new_date s.new_balance) ss

pub last_account : (k : Key) (last : Judgement) (A : List Statement) → last_among k last A ≡ last_of last (of_account k A)
unfolding last_among of_account
last_account k last [] = refl
last_account k last (a ∷ A) = by (same_key a.key k) (λ l. last_account k l A)
  where
    by : (t : Bool) → ((l : Judgement) → last_among k l A ≡ last_of l (of_account k A))
        → last_among k (pick t (After a.new_date a.new_balance) last) A ≡ last_of last (pick t (a ∷ of_account k A) (of_account k A))
    by true i = i (After a.new_date a.new_balance)
    by false i = i last

pub last_snoc : (last : Judgement) (before : List Statement) (h : Statement) → last_of last (before ++ (h ∷ [])) ≡ After h.new_date h.new_balance
last_snoc last [] h = refl
last_snoc last (x ∷ xs) h = last_snoc (After x.new_date x.new_balance) xs h

-- to follow another: at or after its date, with its balance
pub after_exact : (date : ℕ) (balance : ℤ) (d : ℕ) (a : ℤ) → (follows_by (After date balance) d a ≡ true) ↔ ((date ≤ d) × (balance ≡ a))
after_exact date balance d a = (
  (λ h. (leb-true date d (and_left (leb date d) _ h), same_amount_true balance a (and_right (leb date d) _ h))),
  (λ p. both (le-leb date d p.0) (rw p.1 (same_amount_self a))),
)

-- to follow is to link
pub links : (s t : Statement) → follows_by (After s.new_date s.new_balance) t.old_date t.old_balance ≡ true → Links s t
links s t h = let p = (after_exact _ _ _ _).0 h in record { date = p.0; balance = p.1 }

pub linked : (s t : Statement) → Links s t → follows_by (After s.new_date s.new_balance) t.old_date t.old_balance ≡ true
linked s t l = (after_exact _ _ _ _).1 (l.date, l.balance)

-- a chain with one more that follows its last
chain_snoc : (L : List Statement) (s : Statement) → Chained L → follows_by (last_of First L) s.old_date s.old_balance ≡ true → Chained (L ++ (s ∷ []))
chain_snoc [] s c f = tt
chain_snoc (x ∷ []) s c f = (links x s f, tt)
chain_snoc (x ∷ y ∷ L) s c f = (c.0, chain_snoc (y ∷ L) s c.1 f)

-- a member of a chain follows those before it
chain_there : (L : List Statement) (s : Statement) (M : List Statement) → Chained (L ++ (s ∷ M)) → follows_by (last_of First L) s.old_date s.old_balance ≡ true
chain_there [] s M c = refl
chain_there (x ∷ []) s M c = linked x s c.0
chain_there (x ∷ y ∷ L) s M c = chain_there (y ∷ L) s M c.1

-- in turn: each later one begins on the day of the new date or later
abbrev pub InTurn : List Statement → Type 0
InTurn [] = Unit
InTurn (s ∷ ss) = All (λ t. s.new_date ≤ t.old_date) ss × InTurn ss

-- the next one begins there or later, and a statement ends on its old date or later
pub chain_in_turn : (L : List Statement) → Chained L → All (Writable july) L → InTurn L
chain_in_turn [] c w = tt
chain_in_turn (s ∷ []) c w = (tt, tt)
chain_in_turn (s ∷ t ∷ ts) c w =
    let i = chain_in_turn (t ∷ ts) c.1 w.1 in
    let a = c.0.date in
    let b = w.1.0.valid.dates in
    let d : s.new_date ≤ t.new_date = omega arith in
    ((a, later ts i.0 d), i)
  where
    later : {x y : ℕ} (ts : List Statement) → All (λ u. y ≤ u.old_date) ts → x ≤ y → All (λ u. x ≤ u.old_date) ts
    later [] h d = tt
    later (u ∷ ts) h d = let e = h.0 in (omega arith, later ts h.1 d)

-- so along a chain new dates never fall
pub chain_never_falls : (L : List Statement) → Chained L → All (Writable july) L → NeverFalls L
chain_never_falls L c w = ends L (chain_in_turn L c w) w
  where
    end : (x : ℕ) (ss : List Statement) → All (λ t. x ≤ t.old_date) ss → All (Writable july) ss → All (λ t. x ≤ t.new_date) ss
    end x [] h w = tt
    end x (t ∷ ts) h w = let a = h.0 in let b = w.0.valid.dates in (omega arith, end x ts h.1 w.1)

    ends : (L : List Statement) → InTurn L → All (Writable july) L → NeverFalls L
    ends [] i w = tt
    ends (s ∷ ss) i w = (end s.new_date ss i.0 w.1, ends ss i.1 w.1)

-- and the last new date is the latest
pub last_latest : (before : List Statement) (h : Statement) → NeverFalls (before ++ (h ∷ [])) → All (λ s. s.new_date ≤ h.new_date) before
last_latest [] h n = tt
last_latest (s ∷ ss) h n = (last ss n.0, last_latest ss h n.1)
  where
    last : {x : ℕ} (ss : List Statement) → All (λ t. x ≤ t.new_date) (ss ++ (h ∷ [])) → x ≤ h.new_date
    last [] a = a.0
    last (t ∷ ts) a = last ts a.1

-- ---- both

-- what it says that one follows
pub record New (s : Statement) (A : List Statement) : Type 0 where
  pub fresh : held_among s A ≡ false
  pub next : follows_by (last_of First (of_account s.key A)) s.old_date s.old_balance ≡ true

pub new : (s : Statement) (A : List Statement) → follows s A ≡ true → New s A
unfolding judgement_of
new s A h = by (held_among s A) refl h
  where
    by : (t : Bool) → held_among s A ≡ t → follows_by (pick t Held (last_among s.key First A)) s.old_date s.old_balance ≡ true → New s A
    by true e g = absurd (clash g refl)
    by false e g = record { fresh = e; next = rw (last_account s.key First A) at g }

of_new : (s : Statement) (A : List Statement) → New s A → follows s A ≡ true
unfolding judgement_of
of_new s A n = rw (n.fresh, last_account s.key First A) n.next

-- one more of an account, or of another
account_snoc : (k : Key) (A : List Statement) (s : Statement) → Chained (of_account k A) → New s A → Chained (of_account k (A ++ (s ∷ [])))
unfolding of_account
account_snoc k A s c n = rw (account_append k A (s ∷ [])) (by (same_key s.key k) refl)
  where
    by : (t : Bool) → same_key s.key k ≡ t → Chained (of_account k A ++ pick t (s ∷ []) [])
    by true e =
        let q : of_account s.key A ≡ of_account k A = ap (λ x. of_account x A) (same_key_true s.key k e) in
        chain_snoc (of_account k A) s c (rw q at n.next)
    by false e = rw (append-nil (of_account k A)) c

pub row_distinct : (A B : List Statement) → Row A B → Distinct A → Distinct (A ++ B)
row_distinct A [] r d = rw (append-nil A) d
row_distinct A (s ∷ B) r d =
    rw (append_assoc A (s ∷ []) B) at (row_distinct (A ++ (s ∷ [])) B r.1 (distinct_snoc A s d (new s A r.0).fresh))

pub row_chained : (k : Key) (A B : List Statement) → Row A B → Chained (of_account k A) → Chained (of_account k (A ++ B))
row_chained k A [] r c = rw (append-nil A) c
row_chained k A (s ∷ B) r c =
    rw (append_assoc A (s ∷ []) B) at (row_chained k (A ++ (s ∷ [])) B r.1 (account_snoc k A s c (new s A r.0)))

-- one of the account stands among its account's
account_own : (k : Key) (s : Statement) (B : List Statement) → same_key s.key k ≡ true → of_account k (s ∷ B) ≡ s ∷ of_account k B
unfolding of_account
account_own k s B e = rw e

pub row_of : (A B : List Statement) → Distinct (A ++ B) → ((k : Key) → Chained (of_account k (A ++ B))) → Row A B
row_of A [] d c = tt
row_of A (s ∷ B) d c =
    let k = s.key in
    let m : Chained (of_account k A ++ (s ∷ of_account k B)) = rw (account_append k A (s ∷ B), account_own k s B (same_key_self k)) at (c k) in (
      of_new s A (record { fresh = new_there A s B d; next = chain_there (of_account k A) s (of_account k B) m }),
      row_of (A ++ (s ∷ [])) B (rw (append_assoc A (s ∷ []) B) d) (λ k. rw (append_assoc A (s ∷ []) B) (c k)),
    )
