-- What stands for a number in policies of version 3: the names of a protocol's codes, code_named, and those of its groups, group_named. A
-- name is read exactly, in its case and with its blanks. Each code that is served has one.
use Rattle.std.specs.Prelude.{ℕ, zero, suc, ◌+◌, ◌*◌, nat_eq, if◌then◌else◌, List, [], ◌∷◌, drop, Option, Some, None, option_map, option_and_then, codes}
use Rattle.std.specs.Prelude.{Bool, false, bytes_eq, find}
use Rattle.std.specs.Option.{option_map_or, option_or}
use Rattle.std.specs.List.{starts_with}
use Rattle.cf_policy.specs.declared.policy.Protocol.{Protocol}
use Rattle.cf_policy.specs.declared.policy.Protocol.TheVariants.{Modbus, Dnp3, Iec104}
use Rattle.cf_policylang.specs.Numbers.{octet, split_at_mark}

-- ---- codes

-- the functions of Modbus: MODBUS Application Protocol Specification V1.1b3, section 6
abbrev pub modbus_names : List (ℕ × List ℕ)
modbus_names =
    (1, codes "read coils") ∷ (2, codes "read discrete inputs") ∷ (3, codes "read holding registers") ∷ (4, codes "read input registers")
    ∷ (5, codes "write single coil") ∷ (6, codes "write single register") ∷ (15, codes "write multiple coils")
    ∷ (16, codes "write multiple registers") ∷ (22, codes "mask write register") ∷ (23, codes "read/write multiple registers") ∷ []

-- the function codes of DNP3: IEEE 1815-2012, section 4.4
abbrev pub dnp3_names : List (ℕ × List ℕ)
dnp3_names =
    (1, codes "read") ∷ (2, codes "write") ∷ (3, codes "select") ∷ (4, codes "operate") ∷ (5, codes "direct operate")
    ∷ (6, codes "direct operate, no response") ∷ (7, codes "immediate freeze") ∷ (8, codes "immediate freeze, no response")
    ∷ (9, codes "freeze and clear") ∷ (10, codes "freeze and clear, no response") ∷ (13, codes "cold restart") ∷ (14, codes "warm restart")
    ∷ (20, codes "enable unsolicited responses") ∷ (21, codes "disable unsolicited responses") ∷ (22, codes "assign class")
    ∷ (23, codes "delay measurement") ∷ (24, codes "record current time") ∷ []

-- the type identifications of IEC 60870-5-104: IEC 60870-5-101, section 7.2.1, and IEC 60870-5-104, section 8
abbrev pub iec104_names : List (ℕ × List ℕ)
iec104_names =
    (45, codes "C_SC_NA_1") ∷ (46, codes "C_DC_NA_1") ∷ (47, codes "C_RC_NA_1") ∷ (48, codes "C_SE_NA_1") ∷ (49, codes "C_SE_NB_1")
    ∷ (50, codes "C_SE_NC_1") ∷ (51, codes "C_BO_NA_1") ∷ (58, codes "C_SC_TA_1") ∷ (59, codes "C_DC_TA_1") ∷ (60, codes "C_RC_TA_1")
    ∷ (61, codes "C_SE_TA_1") ∷ (62, codes "C_SE_TB_1") ∷ (63, codes "C_SE_TC_1") ∷ (64, codes "C_BO_TA_1") ∷ (100, codes "C_IC_NA_1")
    ∷ (101, codes "C_CI_NA_1") ∷ (102, codes "C_RD_NA_1") ∷ (103, codes "C_CS_NA_1") ∷ (105, codes "C_RP_NA_1") ∷ (107, codes "C_TS_TA_1")
    ∷ (110, codes "P_ME_NA_1") ∷ (111, codes "P_ME_NB_1") ∷ (112, codes "P_ME_NC_1") ∷ (113, codes "P_AC_NA_1") ∷ []

-- the codes of a protocol that have a name, each with it
abbrev pub names_of : Protocol → List (ℕ × List ℕ)
names_of Modbus = modbus_names
names_of Dnp3 = dnp3_names
names_of Iec104 = iec104_names

-- the name of a code, if it has one
abbrev pub code_name : Protocol → ℕ → Option (List ℕ)
code_name protocol code = option_map (λ row. row.1) (find (λ row. nat_eq row.0 code) (names_of protocol))

-- the code has the name
abbrev pub is_called : Protocol → ℕ → List ℕ → Bool
is_called protocol code text = option_map_or (λ own. bytes_eq own text) (code_name protocol code) false

-- the least number below a bound that passes a test
abbrev pub least_below : ℕ → (ℕ → Bool) → Option ℕ
least_below zero passes = None
least_below (suc n) passes = option_or (least_below n passes) (if passes n then Some n else None)

-- the code of a name, if the text is a name of the protocol's: codes are below 256, and no two have the same name
abbrev pub code_named : Protocol → List ℕ → Option ℕ
code_named Modbus text = least_below 256 (λ code. is_called Modbus code text)
code_named Dnp3 text = least_below 256 (λ code. is_called Dnp3 code text)
code_named Iec104 text = least_below 256 (λ code. is_called Iec104 code text)

-- ---- groups

-- an object group and its variation, each a number from 0 to 255 as it is printed
abbrev pub variation_of : List ℕ → List ℕ → Option ℕ
variation_of group variation = option_and_then (λ n. option_map (λ m. n * 256 + m) (octet variation)) (octet group)

-- an object group with its variation, as gNvM
abbrev pub variation_named : List ℕ → Option ℕ
variation_named text =
    if starts_with nat_eq text (codes "g") then option_and_then (λ p. variation_of p.0 p.1) (split_at_mark (codes "v") (drop 1 text)) else None

-- a cause of transmission that commands have: IEC 60870-5-101, section 7.2.3
abbrev pub cause_named : List ℕ → Option ℕ
cause_named text =
    if bytes_eq text (codes "request") then Some 5
    else if bytes_eq text (codes "activation") then Some 6
    else if bytes_eq text (codes "deactivation") then Some 8
    else None

-- the group of a name, if the text is a name of the protocol's: Modbus has none
abbrev pub group_named : Protocol → List ℕ → Option ℕ
group_named Modbus text = None
group_named Dnp3 text = variation_named text
group_named Iec104 text = cause_named text
