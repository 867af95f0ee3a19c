-- What follows from a result's value.
use Rattle.std.proofs.Common.{Result, Ok, Err, OnOk}
use Rattle.std.specs.Prelude.{IfOk}

pub on_ok : {T E : Type 0} {A B : Type 0} (r : Result T E) → (A → B) → OnOk r A → OnOk r B
on_ok (Ok x) f h = f h
on_ok (Err e) f h = tt

pub on_all : {T E : Type 0} {A : Type 0} (r : Result T E) → A → OnOk r A
on_all (Ok x) h = h
on_all (Err e) h = tt

pub if_both : {T E : Type 0} (A : Type 0) (B C : T → Type 0) (r : Result T E) → (A → (x : T) → B x → C x) → OnOk r A → IfOk r B → IfOk r C
if_both A B C (Ok x) f h k = f h x k
if_both A B C (Err e) f h k = tt

pub if_three : {T E : Type 0} (A : Type 0) (B B' C : T → Type 0) (r : Result T E) → (A → (x : T) → B x → B' x → C x) → OnOk r A → IfOk r B → IfOk r B' → IfOk r C
if_three A B B' C (Ok x) f h k m = f h x k m
if_three A B B' C (Err e) f h k m = tt

pub on_both : {T E : Type 0} {A B C : Type 0} (r : Result T E) → (A → B → C) → OnOk r A → OnOk r B → OnOk r C
on_both (Ok x) f h k = f h k
on_both (Err e) f h k = tt
