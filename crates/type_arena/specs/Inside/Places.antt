-- Where the first fields of a type record stand.
use Rattle.std.specs.Prelude.{◌≡◌, ℕ, ◌+◌, ◌*◌, List, refl}
use Rattle.std.proofs.Common.{add-zero}
use Rattle.byte_records.specs.Number.{number_at}
use Rattle.byte_records.specs.Format.{field_at}
use Rattle.counting_theory.specs.Encoding.{type_size, type_kind, type_zero, type_key, type_span}
use Rattle.counting_theory.specs.Inside.TypeBytes.{type_count}

pub kind_is : (b : List ℕ) (i : ℕ) → type_kind b i ≡ number_at 1 b (type_size * i)
unfolding type_kind field_at
kind_is b i = rw add-zero refl

pub zero_is : (b : List ℕ) (i : ℕ) → type_zero b i ≡ number_at 1 b (type_size * i + 1)
unfolding type_zero field_at
zero_is b i = refl

pub key_is : (b : List ℕ) (i : ℕ) → type_key b i ≡ number_at 2 b (type_size * i + 2)
unfolding type_key field_at
key_is b i = refl

pub span_is : (b : List ℕ) (i : ℕ) → type_span b i ≡ number_at 4 b (type_size * i + 4)
unfolding type_span field_at
span_is b i = refl

pub count_is : (b : List ℕ) (i : ℕ) → type_count b i ≡ number_at 8 b (type_size * i + 8)
unfolding type_count field_at
count_is b i = refl
