-- Groups of zones as the code writes them, one after another.
use Rattle.std.specs.Prelude.{◌&&◌, List, [], ◌∷◌, ℕ, eqb, length, replicate, ℤ}
use Rattle.zones.specs.Choice.{pick}
use Rattle.zones.specs.Number.{digits_of}
use Rattle.zones.specs.Pieces.{flat}
use Rattle.dates.specs.Days.{date_text}
use Rattle.amounts.specs.Amounts.{amount_text}
use Rattle.grammar.specs.declared.Key.{Key}
use Rattle.records.specs.July.{record_size}
use Rattle.fields.specs.declared.Movement.{Movement}
use Rattle.writing.specs.Written.{balance_holds}

-- 1-16: code, by its second character, bank, internal operation, branch
unfoldable pub bank_text : ℕ → Key → List ℕ → List ℕ
bank_text c k i = flat ((48 ∷ c ∷ []) ∷ k.bank ∷ i ∷ k.branch ∷ [])

-- 17-40: currency, decimals and the reserved blank, account, interbank operation, date
unfoldable pub account_text : Key → List ℕ → ℕ → List ℕ
account_text k o d = flat (k.currency ∷ (k.decimals ∷ 32 ∷ []) ∷ k.account ∷ o ∷ date_text d ∷ [])

-- 1-40 of every record
unfoldable pub front_text : ℕ → Key → (internal operation : List ℕ) → ℕ → List ℕ
front_text c k i o d = flat (bank_text c k i ∷ account_text k o d ∷ [])

-- 01 and 07
unfoldable pub balance_text : ℕ → Key → ℕ → ℤ → List ℕ
balance_text c k d a = flat (front_text c k (replicate 4 32) (replicate 2 32) d ∷ replicate 50 32 ∷ amount_text a ∷ replicate 16 32 ∷ [])

-- either of them where 120 bytes can hold the values; all else changes nothing
unfoldable pub balance_put : ℕ → Key → ℕ → ℤ → List ℕ → List ℕ
balance_put c k d a out = pick (eqb (length out) record_size && balance_holds k d a) (balance_text c k d a) out

-- 41-81 of a 04: reject reason, value date, label, two blanks
unfoldable pub middle_text : Movement → List ℕ
middle_text m = flat (m.reject ∷ date_text m.value ∷ m.label ∷ replicate 2 32 ∷ [])

-- 82-120 of a 04: entry number, exemption and unavailability, amount, reference
unfoldable pub last_text : Movement → List ℕ
last_text m = flat (digits_of 7 m.entry ∷ (m.exempt ∷ m.unavailable ∷ []) ∷ amount_text m.amount ∷ m.reference ∷ [])
