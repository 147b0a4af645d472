-- steps that may fail, where all went well
use Rattle.std.proofs.Common.{◌≡◌, List, [], ◌∷◌, Result, Ok, Err, refl}
use Rattle.pipeline_tables.specs.declared.fault.FileFault.{FileFault}
use Rattle.pipeline_tables.specs.Faults.{◌>>=◌}
use Rattle.pipeline_tables.specs.Lists.{onto}

-- what went well
abbrev pub well : {A : Type 0} → A → Result A FileFault
well x = Ok x

pub ok_same : {A : Type 0} (x y : A) → well x ≡ well y → x ≡ y
ok_same x y h = cc

-- a step that went well, and what followed
pub went : {A B : Type 0} (m : Result A FileFault) (f : A → Result B FileFault) (y : B) → (m >>= f) ≡ Ok y → (x : A) × ((m ≡ Ok x) × (f x ≡ Ok y))
went (Ok x) f y h = (x, (refl, h))
went (Err first) f y h = absurd cc

-- a value in front of others
pub went_onto : {A : Type 0} (x : A) (m : Result (List A) FileFault) (ys : List A) → onto (x ∷ []) m ≡ Ok ys → (zs : List A) × ((m ≡ Ok zs) × ((x ∷ zs) ≡ ys))
went_onto x (Ok zs) ys h = (zs, (refl, ok_same (x ∷ zs) ys h))
went_onto x (Err first) ys h = absurd cc

-- the same for what holds of the answer: each value is a variable of what follows
pub after : {A B : Type 0} (P : B → Type 0) (y : B) (m : Result A FileFault) (f : A → Result B FileFault) → ((x : A) → m ≡ Ok x → f x ≡ Ok y → P y) → (m >>= f) ≡ Ok y → P y
after P y (Ok x) f next h = next x refl h
after P y (Err first) f next h = absurd cc
