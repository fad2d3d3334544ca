-- What holds of a result where another fact does.
use Rattle.std.proofs.Common.{◌≡◌, ◌∙◌, ℕ, Option, Some, None, Result, Ok, Err, OnOk, IfOk, refl, sym, ap}

pub on_ok : {T E P Q : Type 0} → (r : Result T E) → (P → Q) → OnOk r P → OnOk r Q
on_ok (Ok x) f p = f p
on_ok (Err e) f p = tt

pub on_if : {T E P : Type 0} {Q : T → Type 0} → (r : Result T E) → ((x : T) → P → Q x) → OnOk r P → IfOk r Q
on_if (Ok x) f p = f x p
on_if (Err e) f p = tt

pub if_ok : {T E : Type 0} {P Q : T → Type 0} → (r : Result T E) → ((x : T) → P x → Q x) → IfOk r P → IfOk r Q
if_ok (Ok x) f p = f x p
if_ok (Err e) f p = tt

pub if_any : {T E : Type 0} {P : Type 0} → (r : Result T E) → P → IfOk r (λ _. P)
if_any (Ok x) p = p
if_any (Err e) p = tt

abbrev err_or : {T E : Type 0} → Result T E → E → E
err_or (Ok x) d = d
err_or (Err e) d = e

pub same_Err : {T E : Type 0} → (x y : E) (r : Result T E) → r ≡ Err x → r ≡ Err y → x ≡ y
same_Err x y r is also = ap (λ r. err_or r x) (sym is ∙ also)

pub no-fault : (o : Option ℕ) → ((n : ℕ) → o ≡ Some n → ⊥) → o ≡ None
no-fault None none = refl
no-fault (Some n) none = absurd (none n refl)

pub none-if : {T : Type 0} → (o : Option T) → ((x : T) → o ≡ Some x → ⊥) → o ≡ None
none-if None none = refl
none-if (Some x) none = absurd (none x refl)
