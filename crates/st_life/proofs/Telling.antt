-- What holds where a disk tells.
use Rattle.std.proofs.Common.{Option, Some, None, IfSome}

pub if-both : {X : Type 0} (o : Option X) (P Q R : X → Type 0) → ((x : X) → P x → Q x → R x) → IfSome o P → IfSome o Q → IfSome o R
if-both None P Q R f p q = tt
if-both (Some x) P Q R f p q = f x p q

pub if-map : {X : Type 0} (o : Option X) (P Q : X → Type 0) → ((x : X) → P x → Q x) → IfSome o P → IfSome o Q
if-map None P Q f p = tt
if-map (Some x) P Q f p = f x p

pub if-all : {X : Type 0} (o : Option X) (P : X → Type 0) → ((x : X) → P x) → IfSome o P
if-all None P f = tt
if-all (Some x) P f = f x
