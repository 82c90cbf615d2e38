-- A table that a rule fills: what f gives for n numbers from i on.
use Rattle.std.specs.Prelude.{List, [], ◌∷◌, ℕ, zero, suc}

abbrev pub tabulate : (ℕ → ℕ) → ℕ → ℕ → List ℕ
tabulate f i zero = []
tabulate f i (suc n) = f i ∷ tabulate f (suc i) n
