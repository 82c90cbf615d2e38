-- A record and its values, for any layout whose zones meet end to end.
use mathlib.Core.Path.{◌≡◌, refl, ap, ap₂, sym, ◌∙◌}
use mathlib.Core.Bool.{Bool, true, ◌&&◌}
use mathlib.Core.List.{List, [], ◌∷◌, ◌++◌, append_assoc}
use Prim.Native.Nat.{ℕ, zero, suc, ◌+◌, ◌-◌, ◌<◌, ◌≤◌}
use native.Mathlib.Nat.{not-suc-le-zero, le_of_suc-le-suc}
use native.Mathlib.Omega.{arith}
use lib.Dec.{leb, eqb}
use lib.ListN.{length, take, drop, get_or, length-append, length-drop, take-append-drop, drop_of_length-le}
use lib.Seq.{drop-drop, length-take-le, take_at, drop_at, take-add}
use borrow.Author.Tests.{eqb-true, leb-true}
use Rattle.zones.specs.Class.{permitted, in_class, every, all}
use Rattle.zones.proofs.Bools.{and_left, and_right, both, conj, and_assoc, and_one}
use Rattle.zones.proofs.Every.{every_append, every_both}
use Rattle.amounts.specs.Amounts.{debit_zero, credit_zero}
use Rattle.layouts.specs.Zone.{part, Kind, amount, Zone, zone, El, get, put, as_written_in, holds, Ask, nothing, test, passes, asked, run_after, run, Values, decode, encode, canon, holds_all, wide, covers, marked, zoned, dated}
use Rattle.layouts.proofs.PerKind.{Right, alike, fixed, still, zeros_permitted, zeros_zoned, zeros_value, put_get, holds_get, get_put, length_put, right_put, right_permitted}

-- a record passes the three rules
pub record Fits (zs : List Zone) (b : List ℕ) : Type 0 where
  pub marks : run marked zs b ≡ true
  pub zones : run zoned zs b ≡ true
  pub dates : run dated zs b ≡ true

-- the same, zone by zone
abbrev Rights : List Zone → List ℕ → Type 0
Rights [] b = Unit {0}
Rights (zone a z k ∷ zs) b = Right k (part a z b) × Rights zs b

-- a rule asked of each zone, from the front
abbrev each : (Kind → Ask) → List Zone → List ℕ → Bool
each r [] b = true
each r (zone a z k ∷ zs) b = passes (r k) (part a z b) && each r zs b

asked_is : (q : Ask) (ok : Bool) (z : List ℕ) → asked q ok z ≡ (ok && passes q z)
asked_is nothing ok z = sym (and_one ok)
asked_is (test p) ok z = refl

run_each : (r : Kind → Ask) (ok : Bool) (zs : List Zone) (b : List ℕ) → run_after r ok zs b ≡ (ok && each r zs b)
run_each r ok [] b = sym (and_one ok)
run_each r ok (zone a z k ∷ zs) b =
    run_each r (asked (r k) ok (part a z b)) zs b
    ∙ (ap (λ (x : Bool). x && each r zs b) (asked_is (r k) ok (part a z b)) ∙ and_assoc ok (passes (r k) (part a z b)) (each r zs b))

-- a rule that a record passes is passed by each zone
abbrev pub passes_zone : (Kind → Ask) → Zone → List ℕ → Bool
passes_zone r (zone a z k) b = passes (r k) (part a z b)

each_at : (r : Kind → Ask) (zs : List Zone) (b : List ℕ) (i : ℕ) (d : Zone) → i < length zs → each r zs b ≡ true → passes_zone r (get_or zs i d) b ≡ true
each_at r [] b i d h e = absurd (not-suc-le-zero h)
each_at r (zone a z k ∷ zs) b zero d h e = and_left (passes (r k) (part a z b)) _ e
each_at r (zone a z k ∷ zs) b (suc i) d h e = each_at r zs b i d (le_of_suc-le-suc h) (and_right (passes (r k) (part a z b)) _ e)

pub zone_at : (r : Kind → Ask) (zs : List Zone) (b : List ℕ) (i : ℕ) (d : Zone) → i < length zs → run r zs b ≡ true → passes_zone r (get_or zs i d) b ≡ true
zone_at r zs b i d h e = each_at r zs b i d h (sym (run_each r true zs b) ∙ e)

each_rights : (zs : List Zone) (b : List ℕ) → each marked zs b ≡ true → each zoned zs b ≡ true → each dated zs b ≡ true → Rights zs b
each_rights [] b m s d = tt
each_rights (zone a z k ∷ zs) b m s d = (
  record {
    mark = and_left (passes (marked k) (part a z b)) _ m;
    zone = and_left (passes (zoned k) (part a z b)) _ s;
    date = and_left (passes (dated k) (part a z b)) _ d;
  },
  each_rights zs b (and_right (passes (marked k) (part a z b)) _ m) (and_right (passes (zoned k) (part a z b)) _ s) (and_right (passes (dated k) (part a z b)) _ d),
)

rights : (zs : List Zone) (b : List ℕ) → Fits zs b → Rights zs b
rights zs b f =
    each_rights zs b (sym (run_each marked true zs b) ∙ f.marks) (sym (run_each zoned true zs b) ∙ f.zones) (sym (run_each dated true zs b) ∙ f.dates)

rights_each : (zs : List Zone) (b : List ℕ) → Rights zs b → (each marked zs b ≡ true) × (each zoned zs b ≡ true) × (each dated zs b ≡ true)
rights_each [] b r = (refl, refl, refl)
rights_each (zone a z k ∷ zs) b r =
    let i = rights_each zs b r.1 in
    (both r.0.mark i.0, both r.0.zone i.1, both r.0.date i.2)

of_rights : (zs : List Zone) (b : List ℕ) → Rights zs b → Fits zs b
of_rights zs b r =
    let e = rights_each zs b r in
    record { marks = run_each marked true zs b ∙ e.0; zones = run_each zoned true zs b ∙ e.1; dates = run_each dated true zs b ∙ e.2 }

-- what the test of a layout says of its first zone
record First (p n a z : ℕ) (k : Kind) (zs : List Zone) : Type 0 where
  start : a ≡ p + 1
  some : a ≤ z
  width : wide (z + 1 - a) k ≡ true
  rest : covers z n zs ≡ true

first : (p n a z : ℕ) (k : Kind) (zs : List Zone) → covers p n (zone a z k ∷ zs) ≡ true → First p n a z k zs
first p n a z k zs h =
    let l = and_left (eqb a (p + 1) && leb a z) _ h in
    let r = and_right (eqb a (p + 1) && leb a z) _ h in
    record {
      start = eqb-true a (p + 1) (and_left (eqb a (p + 1)) _ l);
      some = leb-true a z (and_right (eqb a (p + 1)) _ l);
      width = and_left (wide (z + 1 - a) k) _ r;
      rest = and_right (wide (z + 1 - a) k) _ r;
    }

ends_in : (p n : ℕ) (zs : List Zone) → covers p n zs ≡ true → p ≤ n
ends_in p n [] h = omega (arith, eqb-true p n h)
ends_in p n (zone a z k ∷ zs) h =
    let f = first p n a z k zs h in
    omega (arith, f.start, f.some, ends_in z n zs f.rest)

meet : (w p z : ℕ) (b : List ℕ) → p + w ≡ z → take w (drop p b) ++ drop z b ≡ drop p b
meet w p z b e = rw (← e, ← drop-drop w p b) (take-append-drop w (drop p b))

-- the first zone of the bytes from position p + 1 on
record Cut (p n a z : ℕ) (b : List ℕ) : Type 0 where
  width : length (part a z b) ≡ z + 1 - a
  joined : part a z b ++ drop z b ≡ drop p b

cut_first : (p n a z : ℕ) (k : Kind) (zs : List Zone) (b : List ℕ) → First p n a z k zs → n ≤ length b → Cut p n a z b
cut_first p n a z k zs b f l =
    let m : z ≤ n = ends_in z n zs f.rest in
    let s : a - 1 ≡ p = omega (arith, f.start) in
    let e : p + (z + 1 - a) ≡ z = omega (arith, f.start, f.some) in
    record {
      width = length-take-le (z + 1 - a) (drop (a - 1) b) (rw length-drop (omega (arith, f.start, f.some)));
      joined = rw s (meet (z + 1 - a) p z b e);
    }

-- a pair as a function
abbrev pair : {A B : Type 0} → A → B → A × B
pair a b = (a, b)

-- the first zone, where p bytes stand before it
part_at : (p a z : ℕ) (x y r : List ℕ) → length x ≡ p → a ≡ p + 1 → length y ≡ z + 1 - a → part a z (x ++ (y ++ r)) ≡ y
part_at p a z x y r l s w =
    let q : a - 1 ≡ p = omega (arith, s) in
    rw (q, drop_at x (y ++ r) p l) (take_at y r (z + 1 - a) w)

-- BYTES TO VALUES: what a record that fits holds is written as `canon` says
written : (p n : ℕ) (zs : List Zone) (b : List ℕ) → covers p n zs ≡ true → length b ≡ n → Rights zs b → encode zs (decode zs b) ≡ canon zs b
written p n [] b g l r = refl
written p n (zone a z k ∷ zs) b g l r =
    let f = first p n a z k zs g in
    let c = cut_first p n a z k zs b f (omega arith) in
    ap₂ ◌++◌ (put_get k (z + 1 - a) (part a z b) f.width c.width r.0) (written z n zs b f.rest l r.1)

pub encode_decode : (n : ℕ) (zs : List Zone) (b : List ℕ) → covers 0 n zs ≡ true → length b ≡ n → Fits zs b → encode zs (decode zs b) ≡ canon zs b
encode_decode n zs b g l f = written 0 n zs b g l (rights zs b f)

-- no zone is an amount
abbrev pub fixed_all : List Zone → Bool
fixed_all [] = true
fixed_all (zone a z k ∷ zs) = fixed k && fixed_all zs

-- zones that are no amounts are written as they stand, whatever zones come behind them
pub canon_front : (p q : ℕ) (zs ys : List Zone) (b : List ℕ) → covers p q zs ≡ true → q ≤ length b → fixed_all zs ≡ true
    → canon (zs ++ ys) b ≡ take (q - p) (drop p b) ++ canon ys b
canon_front p q [] ys b g l h =
    let e : q - p ≡ 0 = omega (arith, eqb-true p q g) in
    rw e
canon_front p q (zone a z k ∷ zs) ys b g l h =
    let f = first p q a z k zs g in
    let m : z ≤ q = ends_in z q zs f.rest in
    let s : a - 1 ≡ p = omega (arith, f.start) in
    let e : q - p ≡ (z + 1 - a) + (q - z) = omega (arith, f.start, f.some) in
    let d : p + (z + 1 - a) ≡ z = omega (arith, f.start, f.some) in
    let i = canon_front z q zs ys b f.rest l (and_right (fixed k) _ h) in
    ap₂ ◌++◌ (still k (part a z b) (and_left (fixed k) _ h)) i
    ∙ (sym (append_assoc (part a z b) (take (q - z) (drop z b)) (canon ys b))
    ∙ rw (s, e, take-add (z + 1 - a) (q - z) (drop p b), drop-drop (z + 1 - a) p b, d))

-- THE WRITTEN FORM, of any bytes: the record c has the zones of b as the writer writes them
abbrev pub Rewrites : List Zone → (b c : List ℕ) → Type 0
Rewrites [] b c = Unit {0}
Rewrites (zone a z k ∷ zs) b c = (part a z c ≡ as_written_in k (part a z b)) × Rewrites zs b c

-- the zones from position p + 1 on, where p bytes stand before them
record Canon (p n : ℕ) (zs : List Zone) (x b : List ℕ) : Type 0 where
  size : p + length (canon zs b) ≡ n
  zones : Rewrites zs b (x ++ canon zs b)
  bytes : all permitted (canon zs b) ≡ all permitted (drop p b)

-- this holds of every layout without gaps
canons : (p n : ℕ) (zs : List Zone) (x b : List ℕ) → covers p n zs ≡ true → length x ≡ p → length b ≡ n → Canon p n zs x b
unfolding every
canons p n [] x b g l m =
    let e : p ≡ n = eqb-true p n g in
    record { size = omega arith; zones = tt; bytes = rw (drop_of_length-le b {i = p} (omega arith)) }
canons p n (zone a z k ∷ zs) x b g l m =
    let f = first p n a z k zs g in
    let c = cut_first p n a z k zs b f (omega arith) in
    let y = as_written_in k (part a z b) in
    let w : length y ≡ z + 1 - a = alike (λ k. length) refl k (part a z b) ∙ c.width in
    let i = canons z n zs (x ++ y) b f.rest (omega (arith, length-append x y, f.start, f.some)) m in
    record {
      size = omega (arith, length-append y (canon zs b), i.size, f.start, f.some);
      zones = (part_at p a z x y (canon zs b) l f.start w, rw append_assoc at i.zones);
      bytes = every_both (in_class permitted) y (canon zs b)
          ∙ (conj (alike (λ k. all permitted) zeros_permitted k (part a z b)) i.bytes
          ∙ (sym (every_both (in_class permitted) (part a z b) (drop z b)) ∙ ap (all permitted) c.joined));
    }

-- a rule that does not tell the two zeros apart does not tell the two records apart
each_same : (r : Kind → Ask) → passes (r amount) credit_zero ≡ passes (r amount) debit_zero → (zs : List Zone) (b c : List ℕ) → Rewrites zs b c
    → each r zs c ≡ each r zs b
each_same r e [] b c s = refl
each_same r e (zone a z k ∷ zs) b c s =
    conj (ap (passes (r k)) s.0 ∙ alike (λ k. passes (r k)) e k (part a z b)) (each_same r e zs b c s.1)

-- the same as the code asks it
run_same : (r : Kind → Ask) → passes (r amount) credit_zero ≡ passes (r amount) debit_zero → (zs : List Zone) (b c : List ℕ) → Rewrites zs b c
    → run r zs c ≡ run r zs b
run_same r e zs b c s = run_each r true zs c ∙ (each_same r e zs b c s ∙ sym (run_each r true zs b))

-- nor do the values
values_same : (zs : List Zone) (b c : List ℕ) → Rewrites zs b c → decode zs c ≡ decode zs b
values_same [] b c s = refl
values_same (zone a z k ∷ zs) b c s = ap₂ pair (ap (get k) s.0 ∙ alike get zeros_value k (part a z b)) (values_same zs b c s.1)

-- a record of n bytes, and the same as the writer writes it
pub record Rewritten (n : ℕ) (zs : List Zone) (b : List ℕ) : Type 0 where
  pub size : length (canon zs b) ≡ n
  pub zones : Rewrites zs b (canon zs b)
  pub permitted_same : all permitted (canon zs b) ≡ all permitted b
  pub zoned_same : run zoned zs (canon zs b) ≡ run zoned zs b
  pub dated_same : run dated zs (canon zs b) ≡ run dated zs b
  pub values : decode zs (canon zs b) ≡ decode zs b

-- this holds of every record of the layout's length
pub rewritten : (n : ℕ) (zs : List Zone) (b : List ℕ) → covers 0 n zs ≡ true → length b ≡ n → Rewritten n zs b
rewritten n zs b g l =
    let c = canons 0 n zs [] b g refl l in
    record {
      size = omega (arith, c.size);
      zones = c.zones;
      permitted_same = c.bytes;
      zoned_same = run_same zoned zeros_zoned zs b (canon zs b) c.zones;
      dated_same = run_same dated refl zs b (canon zs b) c.zones;
      values = values_same zs b (canon zs b) c.zones;
    }

-- and is such as the zones can hold
held : (p n : ℕ) (zs : List Zone) (b : List ℕ) → covers p n zs ≡ true → length b ≡ n → Rights zs b → holds_all zs (decode zs b) ≡ true
held p n [] b g l r = refl
held p n (zone a z k ∷ zs) b g l r =
    let f = first p n a z k zs g in
    let c = cut_first p n a z k zs b f (omega arith) in
    both (holds_get k (z + 1 - a) (part a z b) f.width c.width r.0) (held z n zs b f.rest l r.1)

pub holds_decode : (n : ℕ) (zs : List Zone) (b : List ℕ) → covers 0 n zs ≡ true → length b ≡ n → Fits zs b → holds_all zs (decode zs b) ≡ true
holds_decode n zs b g l f = held 0 n zs b g l (rights zs b f)

-- its bytes are permitted
allowed : (p n : ℕ) (zs : List Zone) (b : List ℕ) → covers p n zs ≡ true → length b ≡ n → Rights zs b → all permitted (drop p b) ≡ true
unfolding every
allowed p n [] b g l r =
    let e : length b ≤ p = omega (arith, eqb-true p n g) in
    rw (drop_of_length-le b e)
allowed p n (zone a z k ∷ zs) b g l r =
    let f = first p n a z k zs g in
    let c = cut_first p n a z k zs b f (omega arith) in
    rw (← c.joined)
    (every_append (in_class permitted) (part a z b) (drop z b) (right_permitted k (z + 1 - a) (part a z b) f.width r.0) (allowed z n zs b f.rest l r.1))

pub fits_permitted : (n : ℕ) (zs : List Zone) (b : List ℕ) → covers 0 n zs ≡ true → length b ≡ n → Fits zs b → all permitted b ≡ true
fits_permitted n zs b g l f = allowed 0 n zs b g l (rights zs b f)

-- VALUES TO BYTES
record Put-first (p n a z : ℕ) (k : Kind) (zs : List Zone) (x : List ℕ) (v : El k) (vs : Values zs) : Type 0 where
  good : holds (z + 1 - a) k v ≡ true
  others : holds_all zs vs ≡ true
  rest : covers z n zs ≡ true
  here : part a z (x ++ (put (z + 1 - a) k v ++ encode zs vs)) ≡ put (z + 1 - a) k v
  next : length (x ++ put (z + 1 - a) k v) ≡ z

put_first : (p n a z : ℕ) (k : Kind) (zs : List Zone) (x : List ℕ) (v : El k) (vs : Values zs) → covers p n (zone a z k ∷ zs) ≡ true
    → length x ≡ p → (holds (z + 1 - a) k v && holds_all zs vs) ≡ true → Put-first p n a z k zs x v vs
put_first p n a z k zs x v vs g l h =
    let f = first p n a z k zs g in
    let y = put (z + 1 - a) k v in
    let o = and_left (holds (z + 1 - a) k v) _ h in
    let w : length y ≡ z + 1 - a = length_put k (z + 1 - a) v f.width o in
    record {
      good = o;
      others = and_right (holds (z + 1 - a) k v) _ h;
      rest = f.rest;
      here = part_at p a z x y (encode zs vs) l f.start w;
      next = omega (arith, length-append x y, w, f.start, f.some);
    }

-- values that the zones can hold are what their bytes hold
read_back : (p n : ℕ) (zs : List Zone) (x : List ℕ) (vs : Values zs) → covers p n zs ≡ true → length x ≡ p → holds_all zs vs ≡ true → decode zs (x ++ encode zs vs) ≡ vs
read_back p n [] x vs g l h = refl
read_back p n (zone a z k ∷ zs) x vs g l h =
    let i = put_first p n a z k zs x vs.0 vs.1 g l h in
    ap₂ pair (ap (get k) i.here ∙ get_put k (z + 1 - a) vs.0 i.good)
    (rw (← append_assoc x (put (z + 1 - a) k vs.0) (encode zs vs.1))
    (read_back z n zs (x ++ put (z + 1 - a) k vs.0) vs.1 i.rest i.next i.others))

pub decode_encode : (n : ℕ) (zs : List Zone) (vs : Values zs) → covers 0 n zs ≡ true → holds_all zs vs ≡ true → decode zs (encode zs vs) ≡ vs
decode_encode n zs vs g h = read_back 0 n zs [] vs g refl h

-- and their bytes fit
right_all : (p n : ℕ) (zs : List Zone) (x : List ℕ) (vs : Values zs) → covers p n zs ≡ true → length x ≡ p → holds_all zs vs ≡ true → Rights zs (x ++ encode zs vs)
right_all p n [] x vs g l h = tt
right_all p n (zone a z k ∷ zs) x vs g l h =
    let i = put_first p n a z k zs x vs.0 vs.1 g l h in (
      rw i.here (right_put k (z + 1 - a) vs.0 i.good),
      rw (← append_assoc x (put (z + 1 - a) k vs.0) (encode zs vs.1))
          (right_all z n zs (x ++ put (z + 1 - a) k vs.0) vs.1 i.rest i.next i.others),
    )

pub fits_encode : (n : ℕ) (zs : List Zone) (vs : Values zs) → covers 0 n zs ≡ true → holds_all zs vs ≡ true → Fits zs (encode zs vs)
fits_encode n zs vs g h = of_rights zs (encode zs vs) (right_all 0 n zs [] vs g refl h)

long : (p n : ℕ) (zs : List Zone) (vs : Values zs) → covers p n zs ≡ true → holds_all zs vs ≡ true → p + length (encode zs vs) ≡ n
long p n [] vs g h = omega (arith, eqb-true p n g)
long p n (zone a z k ∷ zs) vs g h =
    let f = first p n a z k zs g in
    let y = put (z + 1 - a) k vs.0 in
    let w : length y ≡ z + 1 - a = length_put k (z + 1 - a) vs.0 f.width (and_left (holds (z + 1 - a) k vs.0) _ h) in
    let i = long z n zs vs.1 f.rest (and_right (holds (z + 1 - a) k vs.0) _ h) in
    omega (arith, length-append y (encode zs vs.1), w, i, f.start, f.some)

pub length_encode : (n : ℕ) (zs : List Zone) (vs : Values zs) → covers 0 n zs ≡ true → holds_all zs vs ≡ true → length (encode zs vs) ≡ n
length_encode n zs vs g h = omega (arith, long 0 n zs vs g h)
