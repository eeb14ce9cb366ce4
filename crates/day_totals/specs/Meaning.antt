-- What action codes mean, element 39 (ISO 8583:1993).
use Rattle.std.specs.Prelude.{List, ℕ, codes, if◌then◌else◌}
use Rattle.std.specs.Str.{bytes_eq}

-- codes from 900 on, and others that this issuer doesn't give
abbrev pub meaning_of_other : List ℕ → List ℕ
meaning_of_other name =
    if bytes_eq name (codes "900") then codes "advice acknowledged, no financial liability accepted"
    else (if bytes_eq name (codes "901") then codes "advice acknowledged, financial liability accepted"
    else (if bytes_eq name (codes "907") then codes "card issuer or switch inoperative"
    else (if bytes_eq name (codes "909") then codes "system malfunction"
    else (if bytes_eq name (codes "913") then codes "duplicate transmission"
    else (if bytes_eq name (codes "914") then codes "not able to trace back to original transaction"
    else codes "another action")))))

-- what three digits mean
abbrev pub meaning_of : List ℕ → List ℕ
meaning_of name =
    if bytes_eq name (codes "000") then codes "approved"
    else (if bytes_eq name (codes "100") then codes "do not honour"
    else (if bytes_eq name (codes "101") then codes "expired card"
    else (if bytes_eq name (codes "110") then codes "invalid amount"
    else (if bytes_eq name (codes "111") then codes "invalid card number"
    else (if bytes_eq name (codes "116") then codes "not sufficient funds"
    else (if bytes_eq name (codes "118") then codes "no card record"
    else (if bytes_eq name (codes "119") then codes "transaction not permitted to cardholder"
    else (if bytes_eq name (codes "121") then codes "exceeds withdrawal amount limit"
    else (if bytes_eq name (codes "123") then codes "exceeds withdrawal frequency limit"
    else (if bytes_eq name (codes "208") then codes "lost card"
    else (if bytes_eq name (codes "209") then codes "stolen card"
    else (if bytes_eq name (codes "400") then codes "accepted (reversal)"
    else meaning_of_other name))))))))))))
