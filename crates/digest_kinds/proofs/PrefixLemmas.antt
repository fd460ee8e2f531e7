-- Options that have something, and the longest prefix that passes.
use Rattle.std.proofs.Common.{ℕ, ◌≡◌, Bool, true, false, List, [], ◌∷◌, ◌++◌, length, Option, None, Some, Result, Ok}
use Rattle.std.proofs.Common.{refl, sym, arith, take_while, option_map}
use Rattle.std.proofs.lemmas.List.{take-append-drop, take_at, drop_at, Elements.All-head, Elements.All-tail}
use Rattle.std.proofs.lemmas.List.{Elements.All-nil, Folds.prefix_len-append, Sums.take_while-cons}
use Rattle.std.specs.{List.AllPass, List.prefix_len, Result.result_ok}
use Rattle.digest_kinds.specs.Bytes.{◌>>=◌, after_while}

-- if a step after an option gives something, the option had something
pub bind_some : {A B : Type 0} {y : B} (o : Option A) (f : A → Option B) → (o >>= f) ≡ Some y
    → (x : A) × (o ≡ Some x) × (f x ≡ Some y)
bind_some o f h = grind arith

-- if a mapped option has something, it is what the function makes of the option's own element
pub map_some : {A B : Type 0} {y : B} (f : A → B) (o : Option A) → option_map f o ≡ Some y
    → (x : A) × (o ≡ Some x) × (f x ≡ y)
map_some f o h = grind arith

-- a result that gives something is `Ok`
pub ok_some : {X E : Type 0} (r : Result X E) (x : X) → result_ok r ≡ Some x → r ≡ Ok x
ok_some r x h = grind arith

-- an option that can't have anything is `None`
pub none_of : {A : Type 0} (o : Option A) → ((x : A) → o ≡ Some x → ⊥) → None ≡ o
none_of o h = grind arith

-- ---- the longest prefix that passes

-- all bytes of the longest prefix pass
pub prefix_passes : (p : ℕ → Bool) (xs : List ℕ) → AllPass p (take_while p xs)
prefix_passes p [] = All-nil (λ x. p x ≡ true)
prefix_passes p (x ∷ xs) = grind (arith, prefix_passes p xs, take_while-cons)

-- the longest prefix and what follows it are the bytes
pub prefix-and-rest : (p : ℕ → Bool) (xs : List ℕ) → xs ≡ take_while p xs ++ after_while p xs
prefix-and-rest p xs = sym (take-append-drop (prefix_len p xs) xs)

-- the longest prefix is all bytes if all pass
pub prefix_len-all : (p : ℕ → Bool) (xs : List ℕ) → AllPass p xs → prefix_len p xs ≡ length xs
prefix_len-all p [] all = refl
prefix_len-all p (x ∷ xs) all =
    grind (arith, prefix_len-all p xs (All-tail (λ x. p x ≡ true) x xs all), All-head)

-- the longest prefix ends at the first byte that doesn't pass
pub prefix_len-stop : (p : ℕ → Bool) (xs : List ℕ) (y : ℕ) (ys : List ℕ) → AllPass p xs → p y ≡ false
    → prefix_len p (xs ++ (y ∷ ys)) ≡ length xs
prefix_len-stop p xs y ys all stop = grind (arith, prefix_len-append, prefix_len-all)

-- the first byte that doesn't pass separates the prefix from the rest
pub parts-at : (p : ℕ → Bool) (xs : List ℕ) (y : ℕ) (ys : List ℕ) → AllPass p xs → p y ≡ false
    → (take_while p (xs ++ (y ∷ ys)) ≡ xs) × (after_while p (xs ++ (y ∷ ys)) ≡ y ∷ ys)
parts-at p xs y ys all stop = grind (arith, prefix_len-stop, take_at, drop_at)
