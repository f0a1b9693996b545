-- The characters that the grammars of numbers, pages and names refer to, by their Unicode code
-- points. The code point of an ASCII character is also its byte.
use Rattle.std.specs.Prelude.{ℕ}

abbrev pub space_char : ℕ
space_char = 32

abbrev pub ampersand_char : ℕ
ampersand_char = 38

abbrev pub comma_char : ℕ
comma_char = 44

abbrev pub hyphen_char : ℕ
hyphen_char = 45

abbrev pub dot_char : ℕ
dot_char = 46

abbrev pub zero_char : ℕ
zero_char = 48

abbrev pub letter_c : ℕ
letter_c = 99

abbrev pub letter_d : ℕ
letter_d = 100

abbrev pub letter_i : ℕ
letter_i = 105

abbrev pub letter_l : ℕ
letter_l = 108

abbrev pub letter_m : ℕ
letter_m = 109

abbrev pub letter_v : ℕ
letter_v = 118

abbrev pub letter_x : ℕ
letter_x = 120

abbrev pub en_dash_char : ℕ
en_dash_char = 0x2013
