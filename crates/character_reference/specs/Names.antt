-- The 252 names of HTML 4.01, ascending, each with its code point in HTML5. Made by tools/reference_names. Assumes nothing.
use Rattle.std.specs.Prelude.{List, [], ◌∷◌, ℕ}
use Rattle.lent.specs.Bytes.{bytes}

unfoldable pub names : List (List ℕ × ℕ)
names =
    (bytes "AElig", 0xC6) ∷ (bytes "Aacute", 0xC1) ∷ (bytes "Acirc", 0xC2) ∷ (bytes "Agrave", 0xC0) ∷
    (bytes "Alpha", 0x391) ∷ (bytes "Aring", 0xC5) ∷ (bytes "Atilde", 0xC3) ∷ (bytes "Auml", 0xC4) ∷ (bytes "Beta", 0x392) ∷
    (bytes "Ccedil", 0xC7) ∷ (bytes "Chi", 0x3A7) ∷ (bytes "Dagger", 0x2021) ∷ (bytes "Delta", 0x394) ∷
    (bytes "ETH", 0xD0) ∷ (bytes "Eacute", 0xC9) ∷ (bytes "Ecirc", 0xCA) ∷ (bytes "Egrave", 0xC8) ∷
    (bytes "Epsilon", 0x395) ∷ (bytes "Eta", 0x397) ∷ (bytes "Euml", 0xCB) ∷ (bytes "Gamma", 0x393) ∷
    (bytes "Iacute", 0xCD) ∷ (bytes "Icirc", 0xCE) ∷ (bytes "Igrave", 0xCC) ∷ (bytes "Iota", 0x399) ∷ (bytes "Iuml", 0xCF) ∷
    (bytes "Kappa", 0x39A) ∷ (bytes "Lambda", 0x39B) ∷ (bytes "Mu", 0x39C) ∷ (bytes "Ntilde", 0xD1) ∷ (bytes "Nu", 0x39D) ∷
    (bytes "OElig", 0x152) ∷ (bytes "Oacute", 0xD3) ∷ (bytes "Ocirc", 0xD4) ∷ (bytes "Ograve", 0xD2) ∷
    (bytes "Omega", 0x3A9) ∷ (bytes "Omicron", 0x39F) ∷ (bytes "Oslash", 0xD8) ∷ (bytes "Otilde", 0xD5) ∷
    (bytes "Ouml", 0xD6) ∷ (bytes "Phi", 0x3A6) ∷ (bytes "Pi", 0x3A0) ∷ (bytes "Prime", 0x2033) ∷ (bytes "Psi", 0x3A8) ∷
    (bytes "Rho", 0x3A1) ∷ (bytes "Scaron", 0x160) ∷ (bytes "Sigma", 0x3A3) ∷ (bytes "THORN", 0xDE) ∷ (bytes "Tau", 0x3A4) ∷
    (bytes "Theta", 0x398) ∷ (bytes "Uacute", 0xDA) ∷ (bytes "Ucirc", 0xDB) ∷ (bytes "Ugrave", 0xD9) ∷
    (bytes "Upsilon", 0x3A5) ∷ (bytes "Uuml", 0xDC) ∷ (bytes "Xi", 0x39E) ∷ (bytes "Yacute", 0xDD) ∷ (bytes "Yuml", 0x178) ∷
    (bytes "Zeta", 0x396) ∷ (bytes "aacute", 0xE1) ∷ (bytes "acirc", 0xE2) ∷ (bytes "acute", 0xB4) ∷ (bytes "aelig", 0xE6) ∷
    (bytes "agrave", 0xE0) ∷ (bytes "alefsym", 0x2135) ∷ (bytes "alpha", 0x3B1) ∷ (bytes "amp", 0x26) ∷
    (bytes "and", 0x2227) ∷ (bytes "ang", 0x2220) ∷ (bytes "aring", 0xE5) ∷ (bytes "asymp", 0x2248) ∷
    (bytes "atilde", 0xE3) ∷ (bytes "auml", 0xE4) ∷ (bytes "bdquo", 0x201E) ∷ (bytes "beta", 0x3B2) ∷
    (bytes "brvbar", 0xA6) ∷ (bytes "bull", 0x2022) ∷ (bytes "cap", 0x2229) ∷ (bytes "ccedil", 0xE7) ∷
    (bytes "cedil", 0xB8) ∷ (bytes "cent", 0xA2) ∷ (bytes "chi", 0x3C7) ∷ (bytes "circ", 0x2C6) ∷ (bytes "clubs", 0x2663) ∷
    (bytes "cong", 0x2245) ∷ (bytes "copy", 0xA9) ∷ (bytes "crarr", 0x21B5) ∷ (bytes "cup", 0x222A) ∷
    (bytes "curren", 0xA4) ∷ (bytes "dArr", 0x21D3) ∷ (bytes "dagger", 0x2020) ∷ (bytes "darr", 0x2193) ∷
    (bytes "deg", 0xB0) ∷ (bytes "delta", 0x3B4) ∷ (bytes "diams", 0x2666) ∷ (bytes "divide", 0xF7) ∷
    (bytes "eacute", 0xE9) ∷ (bytes "ecirc", 0xEA) ∷ (bytes "egrave", 0xE8) ∷ (bytes "empty", 0x2205) ∷
    (bytes "emsp", 0x2003) ∷ (bytes "ensp", 0x2002) ∷ (bytes "epsilon", 0x3B5) ∷ (bytes "equiv", 0x2261) ∷
    (bytes "eta", 0x3B7) ∷ (bytes "eth", 0xF0) ∷ (bytes "euml", 0xEB) ∷ (bytes "euro", 0x20AC) ∷ (bytes "exist", 0x2203) ∷
    (bytes "fnof", 0x192) ∷ (bytes "forall", 0x2200) ∷ (bytes "frac12", 0xBD) ∷ (bytes "frac14", 0xBC) ∷
    (bytes "frac34", 0xBE) ∷ (bytes "frasl", 0x2044) ∷ (bytes "gamma", 0x3B3) ∷ (bytes "ge", 0x2265) ∷ (bytes "gt", 0x3E) ∷
    (bytes "hArr", 0x21D4) ∷ (bytes "harr", 0x2194) ∷ (bytes "hearts", 0x2665) ∷ (bytes "hellip", 0x2026) ∷
    (bytes "iacute", 0xED) ∷ (bytes "icirc", 0xEE) ∷ (bytes "iexcl", 0xA1) ∷ (bytes "igrave", 0xEC) ∷
    (bytes "image", 0x2111) ∷ (bytes "infin", 0x221E) ∷ (bytes "int", 0x222B) ∷ (bytes "iota", 0x3B9) ∷
    (bytes "iquest", 0xBF) ∷ (bytes "isin", 0x2208) ∷ (bytes "iuml", 0xEF) ∷ (bytes "kappa", 0x3BA) ∷
    (bytes "lArr", 0x21D0) ∷ (bytes "lambda", 0x3BB) ∷ (bytes "lang", 0x27E8) ∷ (bytes "laquo", 0xAB) ∷
    (bytes "larr", 0x2190) ∷ (bytes "lceil", 0x2308) ∷ (bytes "ldquo", 0x201C) ∷ (bytes "le", 0x2264) ∷
    (bytes "lfloor", 0x230A) ∷ (bytes "lowast", 0x2217) ∷ (bytes "loz", 0x25CA) ∷ (bytes "lrm", 0x200E) ∷
    (bytes "lsaquo", 0x2039) ∷ (bytes "lsquo", 0x2018) ∷ (bytes "lt", 0x3C) ∷ (bytes "macr", 0xAF) ∷
    (bytes "mdash", 0x2014) ∷ (bytes "micro", 0xB5) ∷ (bytes "middot", 0xB7) ∷ (bytes "minus", 0x2212) ∷
    (bytes "mu", 0x3BC) ∷ (bytes "nabla", 0x2207) ∷ (bytes "nbsp", 0xA0) ∷ (bytes "ndash", 0x2013) ∷ (bytes "ne", 0x2260) ∷
    (bytes "ni", 0x220B) ∷ (bytes "not", 0xAC) ∷ (bytes "notin", 0x2209) ∷ (bytes "nsub", 0x2284) ∷ (bytes "ntilde", 0xF1) ∷
    (bytes "nu", 0x3BD) ∷ (bytes "oacute", 0xF3) ∷ (bytes "ocirc", 0xF4) ∷ (bytes "oelig", 0x153) ∷ (bytes "ograve", 0xF2) ∷
    (bytes "oline", 0x203E) ∷ (bytes "omega", 0x3C9) ∷ (bytes "omicron", 0x3BF) ∷ (bytes "oplus", 0x2295) ∷
    (bytes "or", 0x2228) ∷ (bytes "ordf", 0xAA) ∷ (bytes "ordm", 0xBA) ∷ (bytes "oslash", 0xF8) ∷ (bytes "otilde", 0xF5) ∷
    (bytes "otimes", 0x2297) ∷ (bytes "ouml", 0xF6) ∷ (bytes "para", 0xB6) ∷ (bytes "part", 0x2202) ∷
    (bytes "permil", 0x2030) ∷ (bytes "perp", 0x22A5) ∷ (bytes "phi", 0x3C6) ∷ (bytes "pi", 0x3C0) ∷ (bytes "piv", 0x3D6) ∷
    (bytes "plusmn", 0xB1) ∷ (bytes "pound", 0xA3) ∷ (bytes "prime", 0x2032) ∷ (bytes "prod", 0x220F) ∷
    (bytes "prop", 0x221D) ∷ (bytes "psi", 0x3C8) ∷ (bytes "quot", 0x22) ∷ (bytes "rArr", 0x21D2) ∷
    (bytes "radic", 0x221A) ∷ (bytes "rang", 0x27E9) ∷ (bytes "raquo", 0xBB) ∷ (bytes "rarr", 0x2192) ∷
    (bytes "rceil", 0x2309) ∷ (bytes "rdquo", 0x201D) ∷ (bytes "real", 0x211C) ∷ (bytes "reg", 0xAE) ∷
    (bytes "rfloor", 0x230B) ∷ (bytes "rho", 0x3C1) ∷ (bytes "rlm", 0x200F) ∷ (bytes "rsaquo", 0x203A) ∷
    (bytes "rsquo", 0x2019) ∷ (bytes "sbquo", 0x201A) ∷ (bytes "scaron", 0x161) ∷ (bytes "sdot", 0x22C5) ∷
    (bytes "sect", 0xA7) ∷ (bytes "shy", 0xAD) ∷ (bytes "sigma", 0x3C3) ∷ (bytes "sigmaf", 0x3C2) ∷ (bytes "sim", 0x223C) ∷
    (bytes "spades", 0x2660) ∷ (bytes "sub", 0x2282) ∷ (bytes "sube", 0x2286) ∷ (bytes "sum", 0x2211) ∷
    (bytes "sup", 0x2283) ∷ (bytes "sup1", 0xB9) ∷ (bytes "sup2", 0xB2) ∷ (bytes "sup3", 0xB3) ∷ (bytes "supe", 0x2287) ∷
    (bytes "szlig", 0xDF) ∷ (bytes "tau", 0x3C4) ∷ (bytes "there4", 0x2234) ∷ (bytes "theta", 0x3B8) ∷
    (bytes "thetasym", 0x3D1) ∷ (bytes "thinsp", 0x2009) ∷ (bytes "thorn", 0xFE) ∷ (bytes "tilde", 0x2DC) ∷
    (bytes "times", 0xD7) ∷ (bytes "trade", 0x2122) ∷ (bytes "uArr", 0x21D1) ∷ (bytes "uacute", 0xFA) ∷
    (bytes "uarr", 0x2191) ∷ (bytes "ucirc", 0xFB) ∷ (bytes "ugrave", 0xF9) ∷ (bytes "uml", 0xA8) ∷ (bytes "upsih", 0x3D2) ∷
    (bytes "upsilon", 0x3C5) ∷ (bytes "uuml", 0xFC) ∷ (bytes "weierp", 0x2118) ∷ (bytes "xi", 0x3BE) ∷
    (bytes "yacute", 0xFD) ∷ (bytes "yen", 0xA5) ∷ (bytes "yuml", 0xFF) ∷ (bytes "zeta", 0x3B6) ∷ (bytes "zwj", 0x200D) ∷
    (bytes "zwnj", 0x200C) ∷
    []
