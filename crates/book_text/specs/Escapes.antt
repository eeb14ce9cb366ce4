-- Which bytes stand for themselves in a text of JSON (RFC 8259).
use Rattle.std.specs.Prelude.{ℕ, ◌≤◌, ◌≢◌}

-- no quote, no backslash and no control character
abbrev pub IsPlainByte : ℕ → Type 0
IsPlainByte byte = (32 ≤ byte) × (byte ≢ 34) × (byte ≢ 92)
