-- Which names are held from a book's first line to its end.
use Rattle.std.proofs.Common.{ℕ, false, List}
use Rattle.rx_live.specs.Session.{Session, has_resource}
use Rattle.rx_live.specs.Promise.{NameAct, LeadsNames, IsKept}
use Rattle.rx_live.specs.Lines.{IsNewSession}
use Rattle.rx_live.proofs.Laws.HeldStaysHeld.{leads_same, leads_on, put_off_held, fresh_held}
use Rattle.cellarcliff.specs.LiveCourses.{IsServed, is_put_off, answers, ends}

served_leads : {s : Session} {lines texts : List (List ℕ)} {acts : List NameAct} → IsServed s lines texts acts
    → LeadsNames (has_resource s) acts (λ n. false)
served_leads (is_put_off {s} {t} {line} {lines} {texts} {acts} off rest) =
    leads_same (has_resource s) (has_resource t) (λ n. false) acts (put_off_held s t off) (served_leads rest)
served_leads (answers line text sent rest) = leads_on sent.leads (served_leads rest)
served_leads (ends text ended) = ended.leads

pub served_kept : (first : Session) (lines texts : List (List ℕ)) (acts : List NameAct) → IsNewSession first
    → IsServed first lines texts acts → IsKept acts
served_kept first lines texts acts fresh served =
    leads_same (λ n. false) (has_resource first) (λ n. false) acts (fresh_held first fresh) (served_leads served)
