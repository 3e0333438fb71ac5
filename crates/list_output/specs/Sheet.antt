-- The listing of document 01, byte for byte, and two refusals. Assumes nothing.
use Rattle.std.specs.Prelude.{◌≡◌, refl, [], ◌∷◌}
use Rattle.list_output.specs.Text.{digits_in, decimal, fields, line, refused_text, bucket_line, hole_line, sweep_line, done_text}

-- sweep 7 3 3 3 0 1 4 / bucket 0 2 3 / bucket 1 1 4 / bucket 2 0 0 / hole 0 / hole 3 / hole 5 / hole 6
pub listing9 : done_text 7 3 (record { placed = 3; bumped = 0; zero = 1 }) (0 ∷ 2 ∷ 3 ∷ 3 ∷ []) (3 ∷ 4 ∷ 0 ∷ []) (0 ∷ 3 ∷ 5 ∷ 6 ∷ []) ≡
    115 ∷ 119 ∷ 101 ∷ 101 ∷ 112 ∷ 32 ∷ 55 ∷ 32 ∷ 51 ∷ 32 ∷ 51 ∷ 32 ∷ 51 ∷ 32 ∷ 48 ∷ 32 ∷ 49 ∷ 32 ∷ 52 ∷ 10 ∷ 98 ∷ 117 ∷ 99 ∷ 107 ∷ 101 ∷ 116 ∷ 32 ∷ 48 ∷ 32 ∷ 50 ∷ 32 ∷ 51 ∷ 10 ∷ 98 ∷ 117 ∷ 99 ∷ 107 ∷ 101 ∷ 116 ∷ 32 ∷ 49 ∷ 32 ∷ 49 ∷ 32 ∷ 52 ∷ 10 ∷ 98 ∷ 117 ∷ 99 ∷ 107 ∷ 101 ∷ 116 ∷ 32 ∷ 50 ∷ 32 ∷ 48 ∷ 32 ∷ 48 ∷ 10 ∷ 104 ∷ 111 ∷ 108 ∷ 101 ∷ 32 ∷ 48 ∷ 10 ∷ 104 ∷ 111 ∷ 108 ∷ 101 ∷ 32 ∷ 51 ∷ 10 ∷ 104 ∷ 111 ∷ 108 ∷ 101 ∷ 32 ∷ 53 ∷ 10 ∷ 104 ∷ 111 ∷ 108 ∷ 101 ∷ 32 ∷ 54 ∷ 10 ∷ []
unfolding done_text sweep_line bucket_line hole_line line fields decimal digits_in
listing9 = refl

-- refused 18
pub refused18 : refused_text 18 [] ≡ 114 ∷ 101 ∷ 102 ∷ 117 ∷ 115 ∷ 101 ∷ 100 ∷ 32 ∷ 49 ∷ 56 ∷ 10 ∷ []
unfolding refused_text line fields decimal digits_in
refused18 = refl

-- refused 14 1023
pub refused14 : refused_text 14 (1023 ∷ []) ≡ 114 ∷ 101 ∷ 102 ∷ 117 ∷ 115 ∷ 101 ∷ 100 ∷ 32 ∷ 49 ∷ 52 ∷ 32 ∷ 49 ∷ 48 ∷ 50 ∷ 51 ∷ 10 ∷ []
unfolding refused_text line fields decimal digits_in
refused14 = refl
